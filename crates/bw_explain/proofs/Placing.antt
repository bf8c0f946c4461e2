-- Elements of templates by their places.
use Rattle.std.proofs.Common.{◌≡◌, inl, inr, ℕ, suc, ◌+◌, ◌<◌, ◌≤◌, List, length, get_or, take, drop, drop-cons, refl, ap, sym, ◌∙◌, subst, arith}
use Rattle.std.specs.Prelude.{Result, Ok, Err, IfOk}
use Rattle.std.proofs.lemmas.Bool.{cases_lt}
use Rattle.std.proofs.lemmas.List.{get_or_past}
use Rattle.bw_lang.specs.declared.items.Attr.{Attr}
use Rattle.bw_lang.specs.declared.items.Element.{Element}
use Rattle.bw_lang.specs.declared.items.Item.{Item}
use Rattle.bw_lang.specs.Document.Forest.{Forest, none, text, gap, element}
use Rattle.bw_lang.specs.Document.Documents.{append, elements}
use Rattle.bw_lang.specs.Document.View.{forest, before}
use Rattle.bw_lang.proofs.Forests.{forest-split, before-append}
use Rattle.bw_shape.specs.Nodes.Templates.{template_at}
use Rattle.bw_judge.specs.Faults.{At, here, inside, after_element, after_text, after_gap}
use Rattle.bw_explain.specs.Places.{IsThere}

-- places are from 1 to the number of elements
pub at_low : {t : Forest} {k : ℕ} {tag : List ℕ} {a : List Attr} {i : Forest} → At t k tag a i → 1 ≤ k
at_low here = omega arith
at_low (inside p) = omega arith
at_low (after_element p) = let h = at_low p in omega (arith, h)
at_low (after_text p) = at_low p
at_low (after_gap p) = at_low p

pub at_high : {t : Forest} {k : ℕ} {tag : List ℕ} {a : List Attr} {i : Forest} → At t k tag a i → k ≤ elements t
at_high here = omega arith
at_high (inside p) = let h = at_high p in omega (arith, h)
at_high (after_element p) = let h = at_high p in omega (arith, h)
at_high (after_text p) = at_high p
at_high (after_gap p) = at_high p

-- an element stands in a template that is there
pub there_low : (templates : List Forest) (n : ℕ) {k : ℕ} {tag : List ℕ} {a : List Attr} {i : Forest} → At (template_at templates n) k tag a i
    → n < length templates
there_low templates n {k = k} {tag = tag} {a = a} {i = i} p = elim (cases_lt n (length templates)) [
  | inl l ↦ l
  | inr h ↦ let q = subst (λ t. At t k tag a i) (get_or_past templates n none h) p in let l = at_low q in let m = at_high q in absurd (omega (arith, l, m))
]

-- it has no more elements in it than they have
pub at_few : {t : Forest} {k : ℕ} {tag : List ℕ} {a : List Attr} {i : Forest} → At t k tag a i → elements i ≤ elements t
at_few here = omega arith
at_few (inside p) = let h = at_few p in omega (arith, h)
at_few (after_element p) = let h = at_few p in omega (arith, h)
at_few (after_text p) = at_few p
at_few (after_gap p) = at_few p

-- at one place stands one element
abbrev pub OneElement : List ℕ → List Attr → Forest → List ℕ → List Attr → Forest → Type 0
OneElement tag a i found b j = (tag ≡ found) × (a ≡ b) × (i ≡ j)

pub at_same : {t : Forest} {k l : ℕ} {tag found : List ℕ} {a b : List Attr} {i j : Forest} → At t k tag a i → At t l found b j → k ≡ l
    → OneElement tag a i found b j
at_same here here e = (refl, refl, refl)
at_same here (inside q) e = let h = at_low q in absurd (omega (arith, h, e))
at_same here (after_element q) e = let h = at_low q in absurd (omega (arith, h, e))
at_same (inside p) here e = let h = at_low p in absurd (omega (arith, h, e))
at_same (inside {k = k} p) (inside {k = l} q) e = at_same p q (omega (arith, e))
at_same (inside p) (after_element q) e = let h = at_high p in let g = at_low q in absurd (omega (arith, h, g, e))
at_same (after_element p) here e = let h = at_low p in absurd (omega (arith, h, e))
at_same (after_element p) (inside q) e = let h = at_high q in let g = at_low p in absurd (omega (arith, h, g, e))
at_same (after_element {k = k} p) (after_element {k = l} q) e = at_same p q (omega (arith, e))
at_same (after_text p) (after_text q) e = at_same p q e
at_same (after_gap p) (after_gap q) e = at_same p q e

pub at_front : {a : Forest} {k : ℕ} {tag : List ℕ} {x : List Attr} {i : Forest} (b : Forest) → At a k tag x i → At (append a b) k tag x i
at_front b here = here
at_front b (inside p) = inside p
at_front b (after_element p) = after_element (at_front b p)
at_front b (after_text p) = after_text (at_front b p)
at_front b (after_gap p) = after_gap (at_front b p)

pub at_behind : (a : Forest) {b : Forest} {k : ℕ} {tag : List ℕ} {x : List Attr} {i : Forest} → At b k tag x i → At (append a b) (elements a + k) tag x i
at_behind none {b = b} {k = k} {tag = tag} {x = x} {i = i} p = subst (λ m. At b m tag x i) (let e : k ≡ 0 + k = omega arith in e) p
at_behind (text s r) p = after_text (at_behind r p)
at_behind (gap g r) p = after_gap (at_behind r p)
at_behind (element t y j r) {b = b} {k = k} {tag = tag} {x = x} {i = i} p =
    subst (λ m. At (element t y j (append r b)) m tag x i) (let e : 1 + elements j + (elements r + k) ≡ suc (elements j + elements r) + k = omega arith in e)
    (after_element (at_behind r p))

-- what stands in an item stands in the items
pub element_among : (xs : List Item) (i : ℕ) (x : Item) (k place : ℕ) (found : Element) → x ≡ get_or xs i x → i < length xs
    → k + elements (forest (take i xs)) ≡ place → IsThere (before x none) k found → IsThere (forest xs) place found
element_among xs i x k place found e l p h =
    let whole = sym (forest-split xs i) ∙ ap (λ z. append (forest (take i xs)) (forest z)) (drop-cons xs i x l) in
    let item = subst (λ y. IsThere (before y none) k found) e h in
    let front = at_front (forest (drop (suc i) xs)) item in
    let both = subst (λ t. IsThere t k found) (before-append (get_or xs i x) none (forest (drop (suc i) xs))) front in
    subst (λ t. IsThere t place found) (sym whole) (subst
    (λ m. IsThere (append (forest (take i xs)) (before (get_or xs i x) (forest (drop (suc i) xs)))) m found)
    (let q : elements (forest (take i xs)) + k ≡ place = omega (arith, p) in q) (at_behind (forest (take i xs)) both))

pub mapped_both : {X E : Type 0} {P Q R : X → Type 0} (result : Result X E) → ((x : X) → P x → Q x → R x) → IfOk result P → IfOk result Q → IfOk result R
mapped_both (Ok x) f h k = f x h k
mapped_both (Err e) f h k = tt
