use Rattle.std.proofs.Common.{◌≡◌, drop}
use Rattle.std.specs.Prelude.{slice_get}
use Rattle.bw_agent.specs.Filled as spec
use Rattle.bw_agent.proofs.filling.chosen_for.Given as goal

abbrev pub invariant-loop-control : goal.invariant-loop-control
invariant-loop-control l =
    slice_get (spec.chosen (spec.offers_for l.name (drop l.control-index l.controls))) 0 ≡ slice_get (spec.chosen (spec.offers_for l.name l.controls)) 0
