-- Cells that hold sets of numbers and flow into one another.
use Rattle.std.specs.Prelude.{◌≡◌, ◌==◌, ℕ, zero, suc, ◌<◌, true, cond, List, [], ◌∷◌, length}
use Rattle.std.specs.List.{All, list_any}
use Rattle.std.specs.Ordering.{nat_cmp}
use Rattle.bw_solve.specs.Sets.{IsSet, is_within, merge}
use Rattle.analysis_cases.specs.declared.sets.cells.Cell.{Cell}

-- the numbers that a cell holds whatever the others hold
abbrev pub own_at : List Cell → ℕ → List ℕ
own_at [] cell = []
own_at (c ∷ cs) zero = c.own.items
own_at (c ∷ cs) (suc cell) = own_at cs cell

-- the cells that hold what a cell holds as well
abbrev pub readers_at : List Cell → ℕ → List ℕ
readers_at [] cell = []
readers_at (c ∷ cs) zero = c.readers.items
readers_at (c ∷ cs) (suc cell) = readers_at cs cell

-- a set with some more members
abbrev pub filled : List ℕ → List ℕ → List ℕ
filled all [] = all
filled all (x ∷ xs) = filled (merge nat_cmp all (x ∷ [])) xs

-- the numbers of a cell's own, and what those of the first n cells hold that flow into it, where the cells hold what f says
abbrev pub gathered : List Cell → ℕ → (ℕ → List ℕ) → ℕ → List ℕ
gathered cells cell f zero = filled [] (own_at cells cell)
gathered cells cell f (suc n) =
    cond (list_any (λ y. y == cell) (readers_at cells n)) (merge nat_cmp (gathered cells cell f n) (f n)) (gathered cells cell f n)

-- the numbers of all cells
abbrev pub all_numbers : List Cell → List ℕ
all_numbers [] = []
all_numbers (c ∷ cs) = merge nat_cmp (filled [] c.own.items) (all_numbers cs)

-- a set with no other numbers
abbrev pub Fits : List Cell → List ℕ → Type 0
Fits cells v = IsSet nat_cmp v × (is_within nat_cmp v (all_numbers cells) ≡ true)

-- the readers of each cell are there
abbrev pub AreInRange : List Cell → Type 0
AreInRange cells = (cell : ℕ) → cell < length cells → All (λ reader. reader < length cells) (readers_at cells cell)
