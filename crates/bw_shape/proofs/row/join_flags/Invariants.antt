use Rattle.bw_shape.proofs.Rows.Rows.{Joins}
use Rattle.bw_shape.proofs.row.join_flags.Given as goal

abbrev pub invariant-loop-column : goal.invariant-loop-column
invariant-loop-column l = Joins l.initial.mine l.its l.mine l.column
