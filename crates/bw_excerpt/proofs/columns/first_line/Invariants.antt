use Rattle.std.proofs.Common.{◌≡◌, ◌++◌, take, drop}
use Rattle.bw_excerpt.specs.Columns as spec
use Rattle.bw_excerpt.proofs.columns.first_line.Given as goal

abbrev pub invariant-loop-index : goal.invariant-loop-index
invariant-loop-index l = take l.index l.bytes ++ spec.first_line (drop l.index l.bytes) ≡ spec.first_line l.bytes
