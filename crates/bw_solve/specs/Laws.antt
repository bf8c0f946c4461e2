-- Laws of sets and of least solutions.
use Rattle.std.specs.Prelude.{◌≡◌, ◌↔◌, ℕ, Bool, true, ◌||◌, List}
use Rattle.std.specs.declared.cmp.Ordering.{Ordering}
use Rattle.bw_solve.specs.Sets.{has, is_within, merge}
use Rattle.bw_solve.specs.System.{EachFits, EachBelow, IsLeast}

-- a set is within another where each value that it has is in the other
abbrev pub WithinByMembers : {T : Type 0} → (T → T → Ordering) → Type 0
WithinByMembers {T} cmp = (xs ys : List T) → (is_within cmp xs ys ≡ true) ↔ ((x : T) → has cmp xs x ≡ true → has cmp ys x ≡ true)

-- the union has what either set has
abbrev pub UnionByMembers : {T : Type 0} → (T → T → Ordering) → Type 0
UnionByMembers {T} cmp = (xs ys : List T) (x : T) → has cmp (merge cmp xs ys) x ≡ (has cmp xs x || has cmp ys x)

-- the values of the least solution are those that the transfers give from them
abbrev pub LeastIsClosed : {V : Type 0} → (V → V → Bool) → ℕ → (ℕ → V → Type 0) → (ℕ → V) → (ℕ → (ℕ → V) → V) → Type 0
LeastIsClosed {V} below cells fits empty transfer = (f : ℕ → V) → EachFits cells fits f → IsLeast below cells empty transfer f
    → EachBelow below cells (λ cell. transfer cell f) f × EachBelow below cells f (λ cell. transfer cell f)

-- no values from which the transfers give nothing higher lie lower than the least solution
abbrev pub LeastIsLowest : {V : Type 0} → (V → V → Bool) → ℕ → (ℕ → V → Type 0) → (ℕ → V) → (ℕ → (ℕ → V) → V) → Type 0
LeastIsLowest {V} below cells fits empty transfer = (f g : ℕ → V) → EachFits cells fits f → EachFits cells fits g → IsLeast below cells empty transfer f
    → EachBelow below cells (λ cell. transfer cell g) g → EachBelow below cells f g
