use Rattle.bw_shape.proofs.Rows.Rows.{Meets}
use Rattle.bw_shape.proofs.row.meet_flags.Given as goal

abbrev pub invariant-loop-column : goal.invariant-loop-column
invariant-loop-column l = Meets l.initial.mine l.its l.mine l.column
