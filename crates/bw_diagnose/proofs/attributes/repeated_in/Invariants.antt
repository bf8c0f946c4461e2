use Rattle.std.proofs.Common.{◌≡◌, drop}
use Rattle.bw_diagnose.specs.Attributes as spec
use Rattle.bw_diagnose.proofs.attributes.repeated_in.Given as goal

abbrev pub invariant-loop-at : goal.invariant-loop-at
invariant-loop-at l = spec.repeated_from l.part l.blank l.seen l.at (drop l.at l.inside) ≡ spec.repeated_in l.inside
