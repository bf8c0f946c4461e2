-- Documents for one item more.
use Rattle.std.proofs.Common.{◌≡◌, ℕ, zero, suc, ◌+◌, ◌<◌, ◌≤◌, ◌^◌, ◌==◌, if◌then◌else◌, List, length, get_or, take, refl, ap, sym, ◌∙◌, subst, arith}
use Rattle.bw_lang.specs.declared.items.Item.{Item}
use Rattle.bw_lang.specs.Document.Forest.{Forest, none}
use Rattle.bw_lang.specs.Document.Documents.{append, elements}
use Rattle.bw_lang.specs.Document.View.{forest, before}
use Rattle.bw_sum.specs.Graph.{Graph}
use Rattle.bw_explain.specs.declared.sizes.TheConstants.{MAX_SIZE}
use Rattle.bw_explain.specs.declared.reach.Moves.{Moves}
use Rattle.bw_explain.specs.declared.reach.Reach.{Reach}
use Rattle.bw_explain.specs.Sizes.{size, plus}
use Rattle.bw_explain.specs.Walks.{Aim, Runs, both, Adds, at, moves_of, move_at, next_reach, doc_of, IsDraft}
use Rattle.bw_explain.proofs.Filling.{size-append}
use Rattle.bw_explain.proofs.Numbers.{left_of, right_of, plus_exact}
use Rattle.bw_explain.proofs.Runs.{rises}
use Rattle.bw_explain.proofs.Walking.{elements_step, elements_within}

-- the document of the state y was made of that of another and an item
pub record Grown (templates : ℕ → Forest) (G : Graph) (A : Aim) (n j : ℕ) (item : Forest) (r new : Reach) (f : ℕ → ℕ → ℕ) (doc : ℕ → Forest) (y : ℕ)
    (out : Forest) : Type 0 where
  pub origin : ℕ
  pub below : origin ≤ y
  pub least : at new y ≡ plus (at r origin) (f origin y)
  pub adds : Adds (λ e. Runs templates G A n j origin item y e) (f origin y) (doc origin) out

pub draft_step : (templates : ℕ → Forest) (G : Graph) (A : Aim) (n k j x high : ℕ) (t item : Forest) (r new : Reach) (f : ℕ → ℕ → ℕ) (doc out : ℕ → Forest)
    → j ≡ k + elements t → IsDraft templates G A n k x high t r doc
    → ((y : ℕ) → y ≤ high → at new y ≤ MAX_SIZE → Grown templates G A n j item r new f doc y (out y))
    → IsDraft templates G A n k x high (append t item) new out
draft_step templates G A n k j x high t item r new f doc out place draft grown y h l =
    let g = grown y h l in
    let s : plus (at r g.origin) (f g.origin y) ≤ MAX_SIZE = subst (λ v. v ≤ MAX_SIZE) g.least l in
    let b = g.below in
    let d = draft g.origin (omega (arith, b, h)) (left_of (at r g.origin) (f g.origin y) MAX_SIZE (omega arith) s (omega arith)) in
    let a = g.adds in (
      subst (λ z. Runs templates G A n k x (append t item) y z) (sym a.behind)
          (both d.0 (subst (λ i. Runs templates G A n i g.origin item y a.some) place a.has)),
      sized (size (out y)) (size (doc g.origin)) (size a.some) (at r g.origin) (f g.origin y) (at new y) (ap size a.behind ∙ size-append (doc g.origin) a.some)
          d.1 a.most (g.least ∙ plus_exact (at r g.origin) (f g.origin y) s),
    )
  where
    sized : (new old some a b v : ℕ) → new ≡ old + some → old ≤ a → some ≤ b → v ≡ a + b → new ≤ v
    sized new old some a b v e h k f = omega (arith, e, h, k, f)

-- what was taken for a base
pub last_base : (a b c : Forest) (z : ℕ) → z ≤ 2 → (if z == 2 then c else (if z == 0 then a else b)) ≡ doc_of a b c z
last_base a b c zero h = refl
last_base a b c (suc zero) h = refl
last_base a b c (suc (suc zero)) h = refl
last_base a b c (suc (suc (suc z))) h = absurd (omega (arith, h))

pub middle_base : (a b c : Forest) (z : ℕ) → z ≤ 1 → (if z == 1 then b else a) ≡ doc_of a b c z
middle_base a b c zero h = refl
middle_base a b c (suc zero) h = refl
middle_base a b c (suc (suc z)) h = absurd (omega (arith, h))

pub move_of : (f : ℕ → ℕ → ℕ) (o y : ℕ) → o ≤ y → y ≤ 2 → move_at (moves_of f) o y ≡ f o y
move_of f zero zero h l = refl
move_of f zero (suc zero) h l = refl
move_of f zero (suc (suc zero)) h l = refl
move_of f (suc zero) (suc zero) h l = refl
move_of f (suc zero) (suc (suc zero)) h l = refl
move_of f (suc (suc zero)) (suc (suc zero)) h l = refl
move_of f (suc o) zero h l = absurd (omega (arith, h))
move_of f (suc (suc o)) (suc zero) h l = absurd (omega (arith, h))
move_of f (suc (suc (suc o))) (suc (suc zero)) h l = absurd (omega (arith, h))
move_of f o (suc (suc (suc y))) h l = absurd (omega (arith, l))

module _ (templates : ℕ → Forest) (G : Graph) (A : Aim) (n k j x high : ℕ) (t item : Forest) (r : Reach) (f : ℕ → ℕ → ℕ)
    (start middle last start2 middle2 last2 : Forest) (one two : ℕ) (most : high ≤ 2) (place : j ≡ k + elements t)
    (draft : IsDraft templates G A n k x high t r (doc_of start middle last)) where
  abbrev new : Reach
  new = next_reach r (moves_of f)

  abbrev Grows : ℕ → ℕ → Forest → Forest → Type 0
  Grows o y old out = y ≤ high → at new y ≤ MAX_SIZE → Adds (λ e. Runs templates G A n j o item y e) (f o y) old out

  -- the documents of all states are those for one item more
  pub draft_more : one ≤ 1 → two ≤ 2 → at new 1 ≡ plus (at r one) (f one 1) → at new 2 ≡ plus (at r two) (f two 2) → Grows 0 0 start start2
      → Grows one 1 (doc_of start middle last one) middle2 → Grows two 2 (doc_of start middle last two) last2
      → IsDraft templates G A n k x high (append t item) new (doc_of start2 middle2 last2)
  draft_more b c d e g h i = draft_step templates G A n k j x high t item r new f (doc_of start middle last) (doc_of start2 middle2 last2) place draft grown
    where
      grown : (y : ℕ) → y ≤ high → at new y ≤ MAX_SIZE → Grown templates G A n j item r new f (doc_of start middle last) y (doc_of start2 middle2 last2 y)
      grown zero a l = record { origin = 0; below = omega arith; least = refl; adds = g a l }
      grown (suc zero) a l = record { origin = one; below = b; least = d; adds = h a l }
      grown (suc (suc zero)) a l = record { origin = two; below = c; least = e; adds = i a l }
      grown (suc (suc (suc y))) a l = absurd (omega (arith, a, most))

-- the state from which a document that isn't too big comes isn't below the first
pub origin_low : (templates : ℕ → Forest) (G : Graph) (A : Aim) (n k x low high o y c v : ℕ) (t : Forest) (r : Reach) (doc : ℕ → Forest) → low ≤ x
    → IsDraft templates G A n k x high t r doc → v ≡ plus (at r o) c → v ≤ MAX_SIZE → o ≤ y → y ≤ high → low ≤ o
origin_low templates G A n k x low high o y c v t r doc first draft e l h m =
    let k = rises templates G A (draft o (omega (arith, h, m)) (left_of (at r o) c MAX_SIZE (omega arith) (subst (λ z. z ≤ MAX_SIZE) e l) (omega arith))).0 in
    omega (arith, k, first)

-- and what the item costs isn't too big either
pub origin_small : (f : ℕ → ℕ → ℕ) (o y v a : ℕ) (m : Moves) → m ≡ moves_of f → v ≡ plus a (move_at m o y) → v ≤ MAX_SIZE → o ≤ y → y ≤ 2 → f o y ≤ MAX_SIZE
origin_small f o y v a m e g l h k =
    subst (λ z. z ≤ MAX_SIZE) (ap (λ z. move_at z o y) e ∙ move_of f o y h k)
    (right_of a (move_at m o y) MAX_SIZE (omega arith) (subst (λ z. z ≤ MAX_SIZE) g l) (omega arith))

-- the number of elements before an item and in it
pub item_place : (xs : List Item) (items : Forest) (i : ℕ) (x : Item) (place at : ℕ) → x ≡ get_or xs i x → i < length xs → forest xs ≡ items
    → at ≡ place + elements (forest (take i xs)) → place + elements items < 2 ^ 32 → at + elements (before x none) < 2 ^ 32
item_place xs items i x place at e l is p few =
    let a = elements_step xs i x e l in
    let b = elements_within xs (i + 1) in
    let c = ap elements is in
    omega (arith, a, b, c, p, few)
