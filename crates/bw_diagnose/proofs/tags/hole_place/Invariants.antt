use Rattle.std.proofs.Common.{◌≡◌, drop}
use Rattle.bw_diagnose.specs.Places as spec
use Rattle.bw_diagnose.proofs.tags.hole_place.Given as goal

abbrev pub invariant-loop-at : goal.invariant-loop-at
invariant-loop-at l = spec.hole_place (drop l.at l.inside) l.left l.at ≡ spec.hole_place l.inside l.number 0
