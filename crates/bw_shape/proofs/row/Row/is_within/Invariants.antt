use Rattle.std.proofs.Common.{◌≡◌, ℕ, ◌<◌, true}
use Rattle.bw_shape.specs.Rows.Rows.{flag}
use Rattle.bw_shape.proofs.row.Row.is_within.Given as goal

abbrev pub invariant-loop-column : goal.invariant-loop-column
invariant-loop-column l = (c : ℕ) → c < l.column → flag l.self c ≡ true → flag l.other c ≡ true
