-- Labels: the strings that may stand at a gap of a template.
use Rattle.std.specs.Prelude.{◌≡◌, ℕ, Bool, false, List, [], ◌∷◌, if◌then◌else◌, ◌==◌}
use Rattle.std.specs.declared.cmp.Ordering.{Ordering}
use Rattle.std.specs.Ordering.{nat_cmp, ordering_then}
use Rattle.bw_solve.specs.Tables.{IsTable, is_table_below, table_join, table_sum}
use Rattle.bw_strings.specs.declared.strings.StrSet.{StrSet}
use Rattle.bw_strings.specs.declared.strings.StrSet.TheVariants.{Of}
use Rattle.bw_strings.specs.Strings.{IsWellFormed, is_below, both, size_of, rank_of}

abbrev pub pair_cmp : ℕ × ℕ → ℕ × ℕ → Ordering
pair_cmp p q = ordering_then (nat_cmp p.0 q.0) (nat_cmp p.1 q.1)

-- a label has a string
abbrev pub IsHeld : StrSet → Type 0
IsHeld s = IsWellFormed s × (is_below s (Of []) ≡ false)

-- labels in order of their templates and gaps
abbrev pub AreLabels : List ((ℕ × ℕ) × StrSet) → Type 0
AreLabels l = IsTable pair_cmp IsHeld l

abbrev pub are_below : List ((ℕ × ℕ) × StrSet) → List ((ℕ × ℕ) × StrSet) → Bool
are_below a b = is_table_below pair_cmp is_below (Of []) a b

-- the labels of both, their strings joined
abbrev pub both_labels : List ((ℕ × ℕ) × StrSet) → List ((ℕ × ℕ) × StrSet) → List ((ℕ × ℕ) × StrSet)
both_labels a b = table_join pair_cmp both a b

abbrev pub labels_size : List ((ℕ × ℕ) × StrSet) → ℕ
labels_size l = table_sum size_of l

abbrev pub labels_rank : List ((ℕ × ℕ) × StrSet) → ℕ
labels_rank l = table_sum rank_of l

-- a label with these strings for each template where the gap is tracked
abbrev pub labels_at : List (ℕ × ℕ) → ℕ → StrSet → List ((ℕ × ℕ) × StrSet)
labels_at [] g s = []
labels_at (t ∷ ts) g s = if t.0 == g then ((t.1, g), s) ∷ labels_at ts g s else labels_at ts g s
