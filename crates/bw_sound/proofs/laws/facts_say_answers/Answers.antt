use Rattle.bw_sound.proofs.Found.Told.{facts_say_answers}
use Rattle.bw_sound.proofs.laws.facts_say_answers.Goals as goal

pub returns : goal.returns
returns c = facts_say_answers
