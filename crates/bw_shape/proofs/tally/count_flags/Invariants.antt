use Rattle.std.proofs.Common.{◌≡◌, ℕ, ◌+◌, ◌<◌, ◌≤◌, min, length, get_or}
use Rattle.bw_lang.specs.Document.Documents.{one_if}
use Rattle.bw_shape.specs.Rows.Rows.{flag}
use Rattle.bw_shape.proofs.tally.count_flags.Given as goal

abbrev pub invariant-loop-column : goal.invariant-loop-column
invariant-loop-column l =
    (length l.counts ≡ length l.initial.counts)
    × ((c : ℕ) → c < l.column → get_or l.counts c 0 ≡ min (get_or l.initial.counts c 0 + one_if (flag l.flags c)) 2)
    × ((c : ℕ) → l.column ≤ c → get_or l.counts c 0 ≡ get_or l.initial.counts c 0)
