-- Lists that are filled with one value, and lists whose elements are all below a bound.
use Rattle.std.proofs.Common.{◌≡◌, ℕ, ◌+◌, ◌<◌, ◌≤◌, List, [], ◌∷◌, ◌++◌, replicate, ap, sym, ◌∙◌, subst, arith}
use Rattle.std.specs.List.{All}
use Rattle.std.proofs.lemmas.List.{replicate_more}

-- with one more
pub one_more : {X : Type 0} (n : ℕ) (y : X) {ys zs : List X} {x : X} → zs ≡ ys ++ x ∷ [] → ys ≡ replicate n y → x ≡ y → zs ≡ replicate (n + 1) y
one_more n y {x = x} e h k = e ∙ ap (λ xs. xs ++ x ∷ []) h ∙ ap (λ z. replicate n y ++ z ∷ []) k ∙ replicate_more n y

-- with as many as were asked
pub as_many : {X : Type 0} (n m : ℕ) (y : X) {ys : List X} → ys ≡ replicate n y → m ≤ n → n ≤ m → ys ≡ replicate m y
as_many n m y h low high = h ∙ ap (λ k. replicate k y) (omega (arith, low, high))

-- what is below one bound is below an equal one, in an equal list
pub stay_below : {A : Type 0} {rows k : ℕ} {xs ys : List A} (f : A → ℕ) → k ≡ rows → ys ≡ xs → All (λ x. f x < rows) xs → All (λ x. f x < k) ys
stay_below {rows = rows} {ys = ys} f e h all = subst (λ n. All (λ x. f x < n) ys) (sym e) (subst (All (λ x. f x < rows)) (sym h) all)
