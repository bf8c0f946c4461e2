-- Cells at their places.
use Rattle.std.proofs.Common.{◌≡◌, ℕ, zero, suc, ◌<◌, List, [], ◌∷◌, length, get_or, refl, arith}
use Rattle.analysis_cases.specs.declared.sets.cells.Cell.{Cell}
use Rattle.analysis_cases.specs.Cells.{own_at, readers_at}

pub own_is : (cells : List Cell) (i : ℕ) (d : Cell) → i < length cells → own_at cells i ≡ (get_or cells i d).own.items
own_is [] i d h = absurd (omega arith)
own_is (c ∷ cs) zero d h = refl
own_is (c ∷ cs) (suc i) d h = own_is cs i d (omega arith)

pub readers_are : (cells : List Cell) (i : ℕ) (d : Cell) → i < length cells → readers_at cells i ≡ (get_or cells i d).readers.items
readers_are [] i d h = absurd (omega arith)
readers_are (c ∷ cs) zero d h = refl
readers_are (c ∷ cs) (suc i) d h = readers_are cs i d (omega arith)
