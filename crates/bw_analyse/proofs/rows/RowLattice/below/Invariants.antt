use Rattle.std.proofs.Common.{◌≡◌, ◌-◌, ◌≤◌, length, drop}
use Rattle.bw_analyse.specs.Abstracts.{is_below}
use Rattle.bw_analyse.specs.Rows.{each_below}
use Rattle.bw_analyse.proofs.rows.RowLattice.below.Given as goal

abbrev pub invariant-loop-i : goal.invariant-loop-i
invariant-loop-i l = record {
  a_in : l.i ≤ length l.a;
  b_in : l.i ≤ length l.b;
  done : each_below is_below (drop l.i l.a) (drop l.i l.b) ≡ each_below is_below l.a l.b;
}

abbrev pub decreases-loop-i : goal.decreases-loop-i
decreases-loop-i l = length l.a - l.i
