use Rattle.std.proofs.Common.{◌≡◌, drop}
use Rattle.std.specs.Prelude.{slice_get}
use Rattle.bw_agent.specs.Filled as spec
use Rattle.bw_agent.proofs.filling.chosen_in.Given as goal

abbrev pub invariant-loop-offer : goal.invariant-loop-offer
invariant-loop-offer l = slice_get (spec.chosen (drop l.offer-index l.offers)) 0 ≡ slice_get (spec.chosen l.offers) 0
