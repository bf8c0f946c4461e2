-- Facts that follow one after another: a fact is a column of a numbered row.
use Rattle.std.specs.Prelude.{◌≡◌, ℕ, ◌<◌, Bool, true, List, length, slice_index_or}
use Rattle.bw_shape.specs.Rows.Rows.{at}

-- which facts there are
abbrev pub Facts : Type 0
Facts = (row column : ℕ) → Bool

-- which facts follow from those that are known
abbrev pub Derivation : Type 0
Derivation = Facts → Facts

-- the fact follows from facts that are derived
pub data Derived (width : ℕ) (follows : Derivation) : ℕ → ℕ → Type 0 where
  by : {n c : ℕ} (known : Facts) → ((m d : ℕ) → known m d ≡ true → Derived width follows m d) → c < width → follows known n c ≡ true
      → Derived width follows n c

-- each fact of the table is derived
abbrev pub IsDerived : ℕ → Derivation → List (List Bool) → Type 0
IsDerived width follows table = (n c : ℕ) → at table n c ≡ true → Derived width follows n c

-- each fact of row n that follows from the table is in it
abbrev pub IsClosedAt : ℕ → Derivation → List (List Bool) → ℕ → Type 0
IsClosedAt width follows table n = (c : ℕ) → c < width → follows (at table) n c ≡ true → at table n c ≡ true

-- the least facts: each of them is derived, and they are closed at each row of the order
pub record IsLeast (width : ℕ) (follows : Derivation) (order : List ℕ) (table : List (List Bool)) : Type 0 where
  pub derived : IsDerived width follows table
  pub closed : (i : ℕ) → i < length order → IsClosedAt width follows table (slice_index_or order i 0)
