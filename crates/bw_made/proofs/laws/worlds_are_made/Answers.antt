use Rattle.bw_made.proofs.Whole.{results_are_made, empty_is_made, steps_keep_made, worlds_are_made, next_are_made}
use Rattle.bw_made.proofs.laws.worlds_are_made.Goals as goal

pub returns : goal.returns
returns c = record { results = results_are_made; empty = empty_is_made; steps = steps_keep_made; reached = worlds_are_made; next = next_are_made }
