-- The sizes of a walk over parts and over one item more.
use Rattle.std.proofs.Common.{◌≡◌, inl, inr, ℕ, zero, suc, ◌+◌, ◌≤◌, ◌==◌, min, true, false, if◌then◌else◌, List, refl, ap, ◌∙◌, arith}
use Rattle.std.proofs.lemmas.Bool.{eqb-true}
use Rattle.bw_lang.specs.Document.Forest.{Forest, none, text, gap, element}
use Rattle.bw_lang.specs.Document.Documents.{append, elements}
use Rattle.bw_explain.specs.declared.sizes.TheConstants.{PAST}
use Rattle.bw_explain.specs.declared.reach.Reach.{Reach}
use Rattle.bw_explain.specs.Sizes.{plus}
use Rattle.bw_explain.specs.Walks.{Aim, Walk, from, at, after, deep_cost, top_cost, element_cost, walk}
use Rattle.bw_explain.proofs.Numbers.{min_left, min_right, trans, same_le, least_is, if_there}

pub walk-append : (u : Walk) (n k : ℕ) (r : Reach) (a b : Forest) → walk u n k r (append a b) ≡ walk u n (k + elements a) (walk u n k r a) b
walk-append u n k r none b = ap (λ j. walk u n j r b) (let e : k ≡ k + 0 = omega arith in e)
walk-append u n k r (text s t) b = walk-append u n k _ t b
walk-append u n k r (gap g t) b = walk-append u n k _ t b
walk-append u n k r (element tag a i t) b = walk-append u n (k + 1 + elements i) _ t b
    ∙ ap (λ j. walk u n j (walk u n k r (element tag a i t)) b) (let e : k + 1 + elements i + elements t ≡ k + suc (elements i + elements t) = omega arith in e)

pub then_low : (r : Reach) (f : ℕ → ℕ → ℕ) (x y : ℕ) → x ≤ y → y ≤ 2 → at (after r f) y ≤ plus (at r x) (f x y)
then_low r f zero zero h k = same_le _
then_low r f zero (suc zero) h k = min_left _ _
then_low r f (suc zero) (suc zero) h k = min_right _ _
then_low r f zero (suc (suc zero)) h k = min_left _ _
then_low r f (suc zero) (suc (suc zero)) h k = trans _ _ _ (min_right _ _) (min_left _ _)
then_low r f (suc (suc zero)) (suc (suc zero)) h k = trans _ _ _ (min_right _ _) (min_right _ _)
then_low r f x y h k = absurd (omega (arith, h, k))

abbrev pub Origin : Reach → (ℕ → ℕ → ℕ) → ℕ → Type 0
Origin r f y = (x : ℕ) × (x ≤ y) × (at (after r f) y ≡ plus (at r x) (f x y))

pub then_there : (r : Reach) (f : ℕ → ℕ → ℕ) (y : ℕ) → y ≤ 2 → Origin r f y
then_there r f zero h = (0, omega arith, refl)
then_there r f (suc zero) h = elim (least_is (plus r.start (f 0 1)) (plus r.middle (f 1 1))) [ inl e ↦ (0, omega arith, e) | inr e ↦ (1, omega arith, e) ]
then_there r f (suc (suc zero)) h = elim (least_is (plus r.start (f 0 2)) (min (plus r.middle (f 1 2)) (plus r.last (f 2 2)))) [
  | inl e ↦ (0, omega arith, e)
  | inr e ↦ elim (least_is (plus r.middle (f 1 2)) (plus r.last (f 2 2))) [ inl g ↦ (1, omega arith, e ∙ g) | inr g ↦ (2, omega arith, e ∙ g) ]
]
then_there r f (suc (suc (suc y))) h = absurd (omega (arith, h))

pub from_at : (x : ℕ) → x ≤ 2 → at (from x) x ≡ 0
from_at zero h = refl
from_at (suc zero) h = refl
from_at (suc (suc zero)) h = refl
from_at (suc (suc (suc x))) h = absurd (omega (arith, h))

pub from_there : (x y : ℕ) → y ≤ 2 → at (from x) y ≤ PAST → x ≡ y
from_there x zero h l = eqb-true x 0 (if_there (x == 0) 0 l).0
from_there x (suc zero) h l = eqb-true x 1 (if_there (x == 1) 0 l).0
from_there x (suc (suc zero)) h l = eqb-true x 2 (if_there (x == 2) 0 l).0
from_there x (suc (suc (suc y))) h l = absurd (omega (arith, h))

pub element_top : (A : Aim) (n k : ℕ) (tag : List ℕ) (own : ℕ) (inner : Reach) (c v x y : ℕ) → A.deep ≡ false
    → element_cost A n k tag own inner c v x y ≡ top_cost A tag (plus own v) x y
element_top A n k tag own inner c v x y o = ap (λ b. if b then deep_cost A n k own inner c x y else top_cost A tag (plus own v) x y) o

pub element_deep : (A : Aim) (n k : ℕ) (tag : List ℕ) (own : ℕ) (inner : Reach) (c v x y : ℕ) → A.deep ≡ true
    → element_cost A n k tag own inner c v x y ≡ deep_cost A n k own inner c x y
element_deep A n k tag own inner c v x y o = ap (λ b. if b then deep_cost A n k own inner c x y else top_cost A tag (plus own v) x y) o
