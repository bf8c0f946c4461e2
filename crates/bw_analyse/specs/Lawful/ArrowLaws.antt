-- Where arrows come from.
use Rattle.std.specs.Prelude.{◌≡◌, ℕ, suc, ◌+◌, ◌==◌, Bool, true, false, List, [], ◌∷◌, ◌++◌, Some, if◌then◌else◌, slice_get}
use Rattle.std.proofs.Common.{refl, sym, ap, inl, inr, arith}
use Rattle.std.specs.List.{AllByRecursion}
use Rattle.std.proofs.lemmas.Bool.{eqb-true}
use Rattle.bw_flow.specs.Places.{Among}
use Rattle.bw_flow.specs.Steps.{Step}
use Rattle.bw_analyse.specs.declared.arrows.Arrow.{Arrow}
use Rattle.bw_analyse.specs.Rounds.{arrows_from, arrows_to}

-- the arrow comes from a point of the flow that leads to q
abbrev pub Comes : List Step → ℕ → Arrow → Type 0
Comes flow q a = (x : Step) × (slice_get flow a.from ≡ Some x) × Among q x.next

pub all_both : {X : Type 0} (P : X → Type 0) (xs ys : List X) → AllByRecursion P xs → AllByRecursion P ys → AllByRecursion P (xs ++ ys)
all_both P [] ys a b = b
all_both P (x ∷ xs) ys a b = (a.0, all_both P xs ys a.1 b)

from_point : (flow : List Step) (q p : ℕ) (x : Step) → slice_get flow p ≡ Some x → (first : Bool) (next : List ℕ) → ((n : ℕ) → Among n next → Among n x.next)
    → AllByRecursion (Comes flow q) (arrows_from q p first next)
from_point flow q p x e first [] h = tt
from_point flow q p x e first (n ∷ ns) h = by_test (n == q) refl (from_point flow q p x e false ns (λ m a. h m (inr a)))
  where
    by_test : (b : Bool) → (n == q) ≡ b → AllByRecursion (Comes flow q) (arrows_from q p false ns)
        → AllByRecursion (Comes flow q) (if b then record { from = p; is_first = first } ∷ arrows_from q p false ns else arrows_from q p false ns)
    by_test true t r = ((x, e, h q (inl (sym (eqb-true n q t)))), r)
    by_test false t r = r

from_points : (flow : List Step) (q p : ℕ) (xs : List Step) → ((i m : ℕ) → m ≡ p + i → slice_get flow m ≡ slice_get xs i)
    → AllByRecursion (Comes flow q) (arrows_to q p xs)
from_points flow q p [] h = tt
from_points flow q p (x ∷ xs) h =
    all_both (Comes flow q) (arrows_from q p true x.next) (arrows_to q (p + 1) xs)
    (from_point flow q p x (h 0 p (omega arith)) true x.next (λ n a. a)) (from_points flow q (p + 1) xs (λ i m e. h (suc i) m (omega arith)))

pub arrows_come : (flow : List Step) (q : ℕ) → AllByRecursion (Comes flow q) (arrows_to q 0 flow)
arrows_come flow q = from_points flow q 0 flow (λ i m e. ap (slice_get flow) (let k : m ≡ i = omega arith in k))
