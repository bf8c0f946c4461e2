use Rattle.std.proofs.Common.{◌≡◌, drop}
use Rattle.bw_diagnose.specs.Pairing as spec
use Rattle.bw_diagnose.proofs.pairing.refused_in.Given as goal

abbrev pub invariant-loop-at : goal.invariant-loop-at
invariant-loop-at l = spec.refused_from l.fault l.inside l.part l.tag l.around.items l.at (drop l.at l.inside) ≡ spec.refused_in l.fault l.inside
