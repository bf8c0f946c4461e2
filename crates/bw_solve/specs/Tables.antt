-- Tables: keys in order, each with a value; a key that isn't there has the least value.
use Rattle.std.specs.Prelude.{◌≡◌, ℕ, ◌+◌, Bool, true, ◌&&◌, cond, List, [], ◌∷◌}
use Rattle.std.specs.declared.cmp.Ordering.{Ordering}
use Rattle.std.specs.declared.cmp.Ordering.TheVariants.{Less}
use Rattle.std.specs.Ordering.{is_eq, match_ordering}
use Rattle.std.specs.List.{AllByRecursion}

-- each key is below those after it, and each value is one that a table may hold
abbrev pub IsTable : {K V : Type 0} → (K → K → Ordering) → (V → Type 0) → List (K × V) → Type 0
IsTable cmp holds [] = Unit {0}
IsTable cmp holds (e ∷ es) = AllByRecursion (λ f. cmp e.0 f.0 ≡ Less) es × (holds e.1 × IsTable cmp holds es)

-- the value of a key
abbrev pub found : {K V : Type 0} → (K → K → Ordering) → V → List (K × V) → K → V
found cmp least [] k = least
found cmp least (e ∷ es) k = cond (is_eq (cmp e.0 k)) e.1 (found cmp least es k)

-- each key has a value below that of the other table
abbrev pub is_table_below : {K V : Type 0} → (K → K → Ordering) → (V → V → Bool) → V → List (K × V) → List (K × V) → Bool
is_table_below cmp below least [] b = true
is_table_below cmp below least (e ∷ es) b = below e.1 (found cmp least b e.0) && is_table_below cmp below least es b

abbrev pub table_join_into : {K V : Type 0} → (K → K → Ordering) → (V → V → V) → K × V → List (K × V) → (List (K × V) → List (K × V)) → List (K × V)
    → List (K × V)
table_join_into cmp join x xs rest [] = x ∷ xs
table_join_into cmp join x xs rest (y ∷ ys) = match_ordering (cmp x.0 y.0) (x ∷ rest (y ∷ ys)) ((x.0, join x.1 y.1) ∷ rest ys)
    (y ∷ table_join_into cmp join x xs rest ys)

-- the keys of both, with their values joined key by key
abbrev pub table_join : {K V : Type 0} → (K → K → Ordering) → (V → V → V) → List (K × V) → List (K × V) → List (K × V)
table_join cmp join [] ys = ys
table_join cmp join (x ∷ xs) ys = table_join_into cmp join x xs (table_join cmp join xs) ys

-- a number for each value, added up
abbrev pub table_sum : {K V : Type 0} → (V → ℕ) → List (K × V) → ℕ
table_sum size [] = 0
table_sum size (e ∷ es) = size e.1 + table_sum size es
