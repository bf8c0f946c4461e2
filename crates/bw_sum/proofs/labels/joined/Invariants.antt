use Rattle.std.proofs.Common.{◌≡◌, ◌+◌, ◌-◌, ◌≤◌, ◌++◌, length, drop}
use Rattle.bw_solve.specs.Tables.{table_join}
use Rattle.bw_strings.specs.Strings.{both}
use Rattle.bw_sum.specs.Labels.{pair_cmp}
use Rattle.bw_sum.proofs.labels.joined.Given as goal

abbrev pub invariant-loop-i : goal.invariant-loop-i
invariant-loop-i l = record {
  a_in : l.i ≤ length l.a;
  b_in : l.j ≤ length l.b;
  done : l.all.items ++ table_join pair_cmp both (drop l.i l.a) (drop l.j l.b) ≡ table_join pair_cmp both l.a l.b;
}

abbrev pub decreases-loop-i : goal.decreases-loop-i
decreases-loop-i l = (length l.a - l.i) + (length l.b - l.j)
