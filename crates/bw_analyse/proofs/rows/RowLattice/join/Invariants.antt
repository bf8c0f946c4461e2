use Rattle.std.proofs.Common.{◌≡◌, ◌++◌, ◌-◌, length, drop}
use Rattle.bw_analyse.specs.Abstracts.{both}
use Rattle.bw_analyse.specs.Rows.{each_join}
use Rattle.bw_analyse.proofs.rows.RowLattice.join.Given as goal

abbrev pub invariant-loop-i : goal.invariant-loop-i
invariant-loop-i l = l.list.items ++ each_join both (drop l.i l.a) (drop l.i l.b) ≡ each_join both l.a l.b

abbrev pub decreases-loop-i : goal.decreases-loop-i
decreases-loop-i l = length l.a - l.i
