use Rattle.std.proofs.Common.{◌≡◌, drop}
use Rattle.bw_excerpt.specs.Columns as spec
use Rattle.bw_excerpt.proofs.columns.behind_columns.Given as goal

abbrev pub invariant-loop-index : goal.invariant-loop-index
invariant-loop-index l = spec.behind_columns l.left (drop l.index l.bytes) ≡ spec.behind_columns l.count l.bytes
