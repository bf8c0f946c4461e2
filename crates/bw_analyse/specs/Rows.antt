-- Rows of values: their order, part by part.
use Rattle.std.specs.Prelude.{ℕ, ◌+◌, Bool, true, false, ◌&&◌, List, [], ◌∷◌}

-- there are xs many, and those of one place are alike
abbrev pub EachAlike : {V : Type 0} → (V → V → Type 0) → List V → List V → Type 0
EachAlike alike [] [] = Unit {0}
EachAlike alike (a ∷ xs) (b ∷ ys) = alike a b × EachAlike alike xs ys
EachAlike alike [] (b ∷ ys) = ⊥
EachAlike alike (a ∷ xs) [] = ⊥

-- there are xs many, and each is below that of its place
abbrev pub each_below : {V : Type 0} → (V → V → Bool) → List V → List V → Bool
each_below below [] [] = true
each_below below (a ∷ xs) (b ∷ ys) = below a b && each_below below xs ys
each_below below [] (b ∷ ys) = false
each_below below (a ∷ xs) [] = false

-- the joins of those of one place
abbrev pub each_join : {V : Type 0} → (V → V → V) → List V → List V → List V
each_join join [] ys = []
each_join join (a ∷ xs) [] = []
each_join join (a ∷ xs) (b ∷ ys) = join a b ∷ each_join join xs ys

-- a number for each, added up
abbrev pub all_sizes : {V : Type 0} → (V → ℕ) → List V → ℕ
all_sizes size [] = 0
all_sizes size (a ∷ xs) = size a + all_sizes size xs
