use Rattle.std.proofs.Common.{◌≡◌, drop}
use Rattle.bw_diagnose.specs.Places as spec
use Rattle.bw_diagnose.proofs.places.last_filled.Given as goal

abbrev pub invariant-loop-index : goal.invariant-loop-index
invariant-loop-index l = spec.last_filled l.last l.index (drop l.index l.text) ≡ spec.last_filled 0 0 l.text
