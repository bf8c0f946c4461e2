use Rattle.bw_sound.proofs.Found.Accepted.{none_is_listed, facts_solve, facts_are_accepted, facts_cover_worlds}
use Rattle.bw_sound.proofs.laws.facts_cover.Goals as goal

pub returns : goal.returns
returns c = record { gaps = none_is_listed; solved = facts_solve; accepted = facts_are_accepted; worlds = facts_cover_worlds }
