-- How the least facts are found: each row is looked at that may have a new fact. A link is a gap and a row.
use Rattle.std.specs.Prelude.{◌≡◌, ◌≢◌, ◌⊎◌, ℕ, ◌<◌, Bool, true, false, List, [], length, slice_index_or}
use Rattle.std.specs.List.{All, Contains}
use Rattle.bw_shape.specs.Rows.Rows.{flag, at, missing}
use Rattle.bw_shape.specs.Rows.Least.{Facts, Derivation, IsDerived, IsClosedAt}

-- the facts of a row follow from those of the rows that its links lead to, whatever the others have
abbrev pub ReadsLinks : (ℕ → List (ℕ × ℕ)) → Derivation → Type 0
ReadsLinks links follows = (n c : ℕ) (f g : Facts) → All (λ l. (d : ℕ) → f l.1 d ≡ g l.1 d) (links n) → follows f n c ≡ follows g n c

-- row n is among the readers of the row that a link leads to, if there is such a row
abbrev pub IsEntered : ℕ → List (List ℕ) → ℕ × ℕ → Type 0
IsEntered n readers link = link.1 < length readers → Contains (slice_index_or readers link.1 []) n

-- one of the first k links leads to row m
abbrev pub IsLed : List (ℕ × ℕ) → ℕ → ℕ → Type 0
IsLed links k m = (j : ℕ) × (d : ℕ × ℕ) × (j < k) × ((slice_index_or links j d).1 ≡ m)

-- of the first n rows, those that read each row, and no others
pub record AreReadersBelow (n rows : ℕ) (links : ℕ → List (ℕ × ℕ)) (readers : List (List ℕ)) : Type 0 where
  pub len : length readers ≡ rows
  pub each : (m : ℕ) → m < n → All (IsEntered m readers) (links m)
  pub only : (m reader : ℕ) → Contains (slice_index_or readers m []) reader → (reader < n) × IsLed (links reader) (length (links reader)) m

-- the rows that read each row
abbrev pub AreReaders : ℕ → (ℕ → List (ℕ × ℕ)) → List (List ℕ) → Type 0
AreReaders rows = AreReadersBelow rows rows

-- row n was entered as a reader of those that the first k links lead to, and nothing else was
pub record Entered (n : ℕ) (links : List (ℕ × ℕ)) (k : ℕ) (old new : List (List ℕ)) : Type 0 where
  pub len : length new ≡ length old
  pub keeps : (m reader : ℕ) → Contains (slice_index_or old m []) reader → Contains (slice_index_or new m []) reader
  pub done : (j : ℕ) (d : ℕ × ℕ) → j < k → IsEntered n new (slice_index_or links j d)
  pub only : (m reader : ℕ) → Contains (slice_index_or new m []) reader → Contains (slice_index_or old m []) reader ⊎ ((reader ≡ n) × IsLed links k m)

-- what looking at one row did
pub record Step (width : ℕ) (follows : Derivation) (n : ℕ) (old new : List (List Bool)) (changed : Bool) : Type 0 where
  pub derived : IsDerived width follows old → IsDerived width follows new
  pub whole : (c : ℕ) → c < width → follows (at old) n c ≡ true → at new n c ≡ true
  pub others : (m : ℕ) → m ≢ n → (c : ℕ) → at new m c ≡ at old m c
  pub same : changed ≡ false → new ≡ old
  pub long : length new ≡ length old
  pub falls : IsDerived width follows old → changed ≡ true → missing width new < missing width old

-- each fact that follows is in a row that isn't due
abbrev pub IsSettled : ℕ → ℕ → Derivation → List (List Bool) → List Bool → Type 0
IsSettled width rows follows table due = (n : ℕ) → n < rows → flag due n ≡ false → IsClosedAt width follows table n

-- what looking at some rows did to the table, and to the flags of the rows that are due
pub record Progress (width rows : ℕ) (follows : Derivation) (old new : List (List Bool)) (due later : List Bool) (changed : Bool) : Type 0 where
  pub derived : IsDerived width follows old → IsDerived width follows new
  pub settled : IsSettled width rows follows old due → IsSettled width rows follows new later
  pub same : changed ≡ false → new ≡ old
  pub quiet : changed ≡ false → (n : ℕ) → flag due n ≡ false → flag later n ≡ false
  pub long : length new ≡ length old
  pub len : length later ≡ length due
  pub falls : IsDerived width follows old → changed ≡ true → missing width new < missing width old

-- what looking at a row did, where it is due
pub record Look (width rows : ℕ) (follows : Derivation) (n : ℕ) (old new : List (List Bool)) (due later : List Bool) (changed : Bool) : Type 0 where
  pub progress : Progress width rows follows old new due later changed
  pub done : changed ≡ false → flag later n ≡ false

-- what looking at the first k rows in some order did
pub record Round (width rows : ℕ) (follows : Derivation) (order : List ℕ) (k : ℕ) (old new : List (List Bool))
    (due later : List Bool) (changed : Bool) : Type 0 where
  pub progress : Progress width rows follows old new due later changed
  pub done : changed ≡ false → (i : ℕ) → i < k → flag later (slice_index_or order i 0) ≡ false
