-- Systems of cells, their rounds, and their least solution.
use Rattle.std.specs.Prelude.{◌≡◌, ℕ, zero, suc, ◌<◌, ◌≤◌, ◌+◌, Bool, true, List, slice_index_or}
use Rattle.std.specs.List.{Contains}

-- the values of the cells that a list holds; past its end a cell has its least value
abbrev pub family : {V : Type 0} → (ℕ → V) → List V → ℕ → V
family empty values cell = slice_index_or values cell (empty cell)

-- the values after a number of rounds from the least ones; a round computes all cells at once from the cells before
abbrev pub rounds : {V : Type 0} → (ℕ → V) → (ℕ → (ℕ → V) → V) → ℕ → ℕ → V
rounds empty transfer zero cell = empty cell
rounds empty transfer (suc n) cell = transfer cell (rounds empty transfer n)

-- each cell below `cells` has a value that may stand there
abbrev pub EachFits : {V : Type 0} → ℕ → (ℕ → V → Type 0) → (ℕ → V) → Type 0
EachFits cells fits f = (cell : ℕ) → cell < cells → fits cell (f cell)

-- each cell of the first values is below that of the second, or as high
abbrev pub EachBelow : {V : Type 0} → (V → V → Bool) → ℕ → (ℕ → V) → (ℕ → V) → Type 0
EachBelow below cells f g = (cell : ℕ) → cell < cells → below (f cell) (g cell) ≡ true

-- the union of all rounds: it is above each of them, and some round is above it
pub record IsLeast {V : Type 0} (below : V → V → Bool) (cells : ℕ) (empty : ℕ → V) (transfer : ℕ → (ℕ → V) → V) (f : ℕ → V) : Type 0 where
  pub above : (n : ℕ) → EachBelow below cells (rounds empty transfer n) f
  pub reached : (n : ℕ) × EachBelow below cells f (rounds empty transfer n)

-- the first numbers of a sequence, added up
abbrev pub added : (ℕ → ℕ) → ℕ → ℕ
added a zero = 0
added a (suc k) = added a k + a k

-- the sizes of the cells' values, added up
abbrev pub members : {V : Type 0} → (V → ℕ) → (ℕ → V) → ℕ → ℕ
members size f cells = added (λ cell. size (f cell)) cells

-- the least solution has more members than the limit: some round has
abbrev pub IsOver : {V : Type 0} → (V → ℕ) → ℕ → (ℕ → V) → (ℕ → (ℕ → V) → V) → ℕ → Type 0
IsOver size cells empty transfer limit = (n : ℕ) × (limit < members size (rounds empty transfer n) cells)

-- what a system has to obey
pub record IsSystem {V : Type 0} (alike : V → V → Type 0) (below : V → V → Bool) (rank : V → ℕ)
    (cells : ℕ) (fits : ℕ → V → Type 0) (bound : ℕ → ℕ) (empty : ℕ → V) (readers : ℕ → List ℕ) (transfer : ℕ → (ℕ → V) → V) : Type 0 where
  pub fits_alike : (cell : ℕ) (a b : V) → cell < cells → fits cell a → fits cell b → alike a b
  pub fits_bound : (cell : ℕ) (a : V) → cell < cells → fits cell a → rank a ≤ bound cell
  pub empty_fits : (cell : ℕ) → cell < cells → fits cell (empty cell)
  pub empty_least : (cell : ℕ) (a : V) → cell < cells → fits cell a → below (empty cell) a ≡ true
  pub transfer_fits : (cell : ℕ) (f : ℕ → V) → cell < cells → EachFits cells fits f → fits cell (transfer cell f)
  -- a transfer doesn't fall where the cells that it looks at don't fall, whatever the others do
  pub monotone : (cell : ℕ) (f g : ℕ → V) → cell < cells → EachFits cells fits f → EachFits cells fits g
      → ((source : ℕ) → source < cells → Contains (readers source) cell → below (f source) (g source) ≡ true)
      → below (transfer cell f) (transfer cell g) ≡ true
