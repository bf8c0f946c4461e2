-- Tables of kinds: each name and each gap with the kind that it was first given.
use Rattle.std.specs.Prelude.{◌≡◌, ℕ, nat_eq, if◌then◌else◌, List, [], ◌∷◌, ◌++◌, is_some, fold}
use Rattle.std.specs.HashMap.{HashMap, get_by}
use Rattle.bw_lang.specs.Table.Names.{beside}
use Rattle.bw_types.specs.declared.fault.GapKind.{GapKind}
use Rattle.bw_types.specs.Gaps.{gap_kind}

-- the table with a name and its kind behind the others, unless the name is there
abbrev pub with_kind : {A : Type 0} → List (List ℕ × A) → List ℕ × A → List (List ℕ × A)
with_kind table x = if is_some (beside x.0 table) then table else table ++ x ∷ []

-- the table with each of these taken in, one after the other
abbrev pub with_kinds : {A : Type 0} → List (List ℕ × A) → List (List ℕ × A) → List (List ℕ × A)
with_kinds table new = fold with_kind table new

-- the kinds that a gap's number leads to are those of the list
abbrev pub AreKinds : {S : Type 0} → List (ℕ × GapKind) → HashMap ℕ GapKind S → Type 0
AreKinds list kinds = (g : ℕ) → get_by (nat_eq g) kinds ≡ gap_kind list g

-- the table with a gap and its kind behind the others, unless the gap is there
abbrev pub with_use : List (ℕ × GapKind) → ℕ × GapKind → List (ℕ × GapKind)
with_use table x = if is_some (gap_kind table x.0) then table else table ++ x ∷ []

-- the table with each of these taken in, one after the other
abbrev pub with_uses : List (ℕ × GapKind) → List (ℕ × GapKind) → List (ℕ × GapKind)
with_uses table new = fold with_use table new
