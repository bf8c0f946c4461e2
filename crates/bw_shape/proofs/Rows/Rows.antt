-- Rows of flags.
use Rattle.std.proofs.Common.{◌≡◌, ◌⊎◌, ℕ, zero, suc, ◌-◌, ◌<◌, ◌≤◌, Bool, true, false, ◌||◌, ◌&&◌, List, [], ◌∷◌, length, set, get_or, refl, sym, arith}
use Rattle.std.proofs.lemmas.Bool.{false≢true}
use Rattle.std.proofs.lemmas.List.Sums.{sum_by-set}
use Rattle.bw_shape.specs.Rows.Rows.{flag, ones, missing}

-- the columns below k of a row were joined with those of another
pub record Joins (old other new : List Bool) (k : ℕ) : Type 0 where
  pub len : length new ≡ length old
  pub done : (c : ℕ) → c < k → flag new c ≡ (flag old c || flag other c)
  pub left : (c : ℕ) → k ≤ c → flag new c ≡ flag old c

pub record Meets (old other new : List Bool) (k : ℕ) : Type 0 where
  pub len : length new ≡ length old
  pub done : (c : ℕ) → c < k → flag new c ≡ (flag old c && flag other c)
  pub left : (c : ℕ) → k ≤ c → flag new c ≡ flag old c

pub split : (c k : ℕ) → (c < k) ⊎ (k ≤ c)
split c k = grind arith

-- a row within another has no more flags
pub ones_less : (xs ys : List Bool) → ((c : ℕ) → flag xs c ≡ true → flag ys c ≡ true) → ones xs ≤ ones ys
ones_less [] ys h = omega arith
ones_less (false ∷ xs) [] h = let k : ones xs ≤ 0 = ones_less xs [] (λ c k. h (suc c) k) in omega (arith, k)
ones_less (true ∷ xs) [] h = absurd (false≢true (h 0 refl))
ones_less (false ∷ xs) (y ∷ ys) h = let k = ones_less xs ys (λ c k. h (suc c) k) in omega (arith, k)
ones_less (true ∷ xs) (true ∷ ys) h = let k = ones_less xs ys (λ c k. h (suc c) k) in omega (arith, k)
ones_less (true ∷ xs) (false ∷ ys) h = absurd (false≢true (h 0 refl))

-- a row that isn't within another, joined with it, has more flags than that
pub ones_grow : (xs ys : List Bool) → ((c : ℕ) → flag xs c ≡ true → flag ys c ≡ true) → (c : ℕ) → flag xs c ≡ false → flag ys c ≡ true → ones xs < ones ys
ones_grow xs [] h c p q = absurd (false≢true q)
ones_grow [] (true ∷ ys) h c p q = omega arith
ones_grow [] (false ∷ ys) h zero p q = absurd (false≢true q)
ones_grow [] (false ∷ ys) h (suc c) p q = let k = ones_grow [] ys (λ d r. absurd (false≢true r)) c refl q in omega (arith, k)
ones_grow (true ∷ xs) (false ∷ ys) h c p q = absurd (false≢true (h 0 refl))
ones_grow (true ∷ xs) (true ∷ ys) h zero p q = absurd (false≢true (sym p))
ones_grow (false ∷ xs) (false ∷ ys) h zero p q = absurd (false≢true q)
ones_grow (false ∷ xs) (true ∷ ys) h zero p q = let k = ones_less xs ys (λ c k. h (suc c) k) in omega (arith, k)
ones_grow (true ∷ xs) (true ∷ ys) h (suc c) p q = let k = ones_grow xs ys (λ d r. h (suc d) r) c p q in omega (arith, k)
ones_grow (false ∷ xs) (y ∷ ys) h (suc c) p q = let k = ones_grow xs ys (λ d r. h (suc d) r) c p q in omega (arith, k)

pub ones_most : (xs : List Bool) → ones xs ≤ length xs
ones_most [] = omega arith
ones_most (true ∷ xs) = let k = ones_most xs in omega (arith, k)
ones_most (false ∷ xs) = let k = ones_most xs in omega (arith, k)

-- a row with more flags in the place of another
pub missing_falls : (w : ℕ) (rows : List (List Bool)) (n : ℕ) (row : List Bool) → n < length rows → ones (get_or rows n []) < ones row → length row ≡ w
    → missing w (set rows n row) < missing w rows
missing_falls w rows n row l h e =
    let k = sum_by-set (λ r. w - ones r) rows n row [] l in
    let m = ones_most row in
    omega (arith, k, m, h, e)
