use Rattle.std.proofs.Common.{◌≡◌, ◌+◌, ◌≤◌, min, drop}
use Rattle.bw_analyse.specs.Abstracts.{size_of}
use Rattle.bw_analyse.specs.Rows.{all_sizes}
use Rattle.bw_analyse.proofs.rows.RowLattice.size.Given as goal

abbrev pub invariant-loop-value : goal.invariant-loop-value
invariant-loop-value l = record {
  fits : l.total ≤ 18446744073709551615;
  done : min (l.total + all_sizes size_of (drop l.value-index l.self)) 18446744073709551615 ≡ min (all_sizes size_of l.self) 18446744073709551615;
}
