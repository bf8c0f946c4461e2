use Rattle.std.proofs.Common.{◌≡◌}
use Rattle.bw_analyse.specs.Readers.{all_below}
use Rattle.bw_analyse.proofs.readers.everyone.Given as goal

abbrev pub invariant-loop-cell : goal.invariant-loop-cell
invariant-loop-cell l = l.list.items ≡ all_below l.cell
