use Rattle.std.proofs.Common.{◌≡◌, ℕ, ◌<◌, length, get_or, nat_lt}
use Rattle.bw_shape.specs.Rows.Rows.{flag}
use Rattle.bw_shape.proofs.tally.Tally.twos.Given as goal

abbrev pub invariant-loop-column : goal.invariant-loop-column
invariant-loop-column l = (length l.row ≡ length l.self) × ((c : ℕ) → c < l.column → flag l.row c ≡ nat_lt 1 (get_or l.self c 0))
