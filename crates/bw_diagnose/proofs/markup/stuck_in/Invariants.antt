use Rattle.std.proofs.Common.{◌≡◌, drop}
use Rattle.bw_diagnose.specs.Markup as spec
use Rattle.bw_diagnose.specs.declared.markup.Stage.TheVariants as stages
use Rattle.bw_diagnose.proofs.markup.stuck_in.Given as goal

abbrev pub invariant-loop-at : goal.invariant-loop-at
invariant-loop-at l = spec.stuck_from l.stage l.at (drop l.at l.inside) ≡ spec.stuck_from stages.Text 0 l.inside
