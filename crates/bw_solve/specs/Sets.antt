-- Sets as ascending lists.
use Rattle.std.specs.Prelude.{◌≡◌, Bool, cond, List, [], ◌∷◌}
use Rattle.std.specs.declared.cmp.Ordering.{Ordering}
use Rattle.std.specs.declared.cmp.Ordering.TheVariants.{Less}
use Rattle.std.specs.Ordering.{is_eq, match_ordering}
use Rattle.std.specs.List.{AllByRecursion, list_any, list_all}

-- each member is below those after it
abbrev pub IsSet : {T : Type 0} → (T → T → Ordering) → List T → Type 0
IsSet cmp [] = Unit {0}
IsSet cmp (x ∷ xs) = AllByRecursion (λ y. cmp x y ≡ Less) xs × IsSet cmp xs

-- the value is a member
abbrev pub has : {T : Type 0} → (T → T → Ordering) → List T → T → Bool
has cmp xs x = list_any (λ y. is_eq (cmp y x)) xs

-- each member of the first set is one of the second
abbrev pub is_within : {T : Type 0} → (T → T → Ordering) → List T → List T → Bool
is_within cmp xs ys = list_all (has cmp ys) xs

-- the set x ∷ xs and another in order, where `rest` puts xs and another in order
abbrev pub merge_into : {T : Type 0} → (T → T → Ordering) → T → List T → (List T → List T) → List T → List T
merge_into cmp x xs rest [] = x ∷ xs
merge_into cmp x xs rest (y ∷ ys) = match_ordering (cmp x y) (x ∷ rest (y ∷ ys)) (x ∷ rest ys) (y ∷ merge_into cmp x xs rest ys)

-- the members of both, in order
abbrev pub merge : {T : Type 0} → (T → T → Ordering) → List T → List T → List T
merge cmp [] ys = ys
merge cmp (x ∷ xs) ys = merge_into cmp x xs (merge cmp xs) ys

-- a set with those members of a list that are kept
abbrev pub sifted : {T : Type 0} → (T → T → Ordering) → (T → Bool) → List T → List T → List T
sifted cmp keep all [] = all
sifted cmp keep all (x ∷ xs) = sifted cmp keep (cond (keep x) (merge cmp all (x ∷ [])) all) xs
