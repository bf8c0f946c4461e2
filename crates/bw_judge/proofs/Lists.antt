-- Adding the faults of lists and of forests.
use Rattle.std.proofs.Common.{◌≡◌, ◌⊎◌, inl, inr, ℕ, suc, ◌+◌, ◌<◌, List, length, take, get_or, sym, ap, ◌∙◌, subst, arith}
use Rattle.bw_lang.specs.declared.items.Attr.{Attr}
use Rattle.bw_lang.specs.declared.items.Item.{Item}
use Rattle.bw_lang.specs.Document.Forest.{Forest, none, text, gap, element}
use Rattle.bw_lang.specs.Document.View.{forest, before}
use Rattle.bw_lang.specs.Document.Documents.{append, elements}
use Rattle.bw_lang.proofs.Counts.{elements-append}
use Rattle.bw_lang.proofs.Forests.{forest-take}
use Rattle.bw_faults.specs.declared.fault.Fault.{Fault}
use Rattle.bw_judge.specs.declared.content.Spot.{Spot}
use Rattle.bw_faults.specs.Lists.{Adds}
use Rattle.bw_judge.specs.Found.{OfForest, moved}
use Rattle.bw_faults.proofs.Adding.{adds_then}

-- the faults of an element at a spot
abbrev pub Of : Type 1
Of = Spot → List ℕ → List Attr → Forest → Fault → Type 0

-- of one forest or of another behind it
forest_to : (P : Of) (a b : Forest) (s : Spot) (f : Fault) → OfForest P s a f ⊎ OfForest P (moved s (s.place + elements a)) b f → OfForest P s (append a b) f
forest_to P none b s f (inl h) = absurd h
forest_to P none b s f (inr h) = let e : s.place + 0 ≡ s.place = omega arith in subst (λ n. OfForest P (moved s n) b f) e h
forest_to P (text t r) b s f h = forest_to P r b s f h
forest_to P (gap g r) b s f h = forest_to P r b s f h
forest_to P (element t a i r) b s f (inl (inl h)) = inl h
forest_to P (element t a i r) b s f (inl (inr (inl h))) = inr (inl h)
forest_to P (element t a i r) b s f (inl (inr (inr h))) = inr (inr (forest_to P r b (moved s (s.place + 1 + elements i)) f (inl h)))
forest_to P (element t a i r) b s f (inr h) =
    let e : s.place + suc (elements i + elements r) ≡ s.place + 1 + elements i + elements r = omega arith in
    inr (inr (forest_to P r b (moved s (s.place + 1 + elements i)) f (inr (subst (λ n. OfForest P (moved s n) b f) e h))))

forest_back : (P : Of) (a b : Forest) (s : Spot) (f : Fault) → OfForest P s (append a b) f → OfForest P s a f ⊎ OfForest P (moved s (s.place + elements a)) b f
forest_back P none b s f h = let e : s.place ≡ s.place + 0 = omega arith in inr (subst (λ n. OfForest P (moved s n) b f) e h)
forest_back P (text t r) b s f h = forest_back P r b s f h
forest_back P (gap g r) b s f h = forest_back P r b s f h
forest_back P (element t a i r) b s f (inl h) = inl (inl h)
forest_back P (element t a i r) b s f (inr (inl h)) = inl (inr (inl h))
forest_back P (element t a i r) b s f (inr (inr h)) = elim (forest_back P r b (moved s (s.place + 1 + elements i)) f h) [
  | inl k ↦ inl (inr (inr k))
  | inr k ↦ let e : s.place + 1 + elements i + elements r ≡ s.place + suc (elements i + elements r) = omega arith in
      inr (subst (λ n. OfForest P (moved s n) b f) e k)
]

-- one item more
pub adds_item : (P : Of) (s : Spot) (xs : List Item) (i : ℕ) (x : Item) (n : ℕ) (a b c : List Fault) → x ≡ get_or xs i x → i < length xs
    → n ≡ s.place + elements (forest (take i xs))
    → Adds (OfForest P s (forest (take i xs))) a b → Adds (OfForest P (moved s n) (before x none)) b c → Adds (OfForest P s (forest (take (i + 1) xs))) a c
adds_item P s xs i x n a b c e h is p q =
    subst (λ t. Adds (OfForest P s t) a c) (sym (forest-take xs i x e h))
    (adds_then (OfForest P s (append (forest (take i xs)) (before x none))) p (subst (λ m. Adds (OfForest P (moved s m) (before x none)) b c) is q)
    (λ f k. forest_to P (forest (take i xs)) (before x none) s f k)
    (λ f k. forest_back P (forest (take i xs)) (before x none) s f k))

pub adds_element : (P : Of) (s : Spot) (tag : List ℕ) (at : List Attr) (i : Forest) (a b c : List Fault)
    → Adds (P (moved s (s.place + 1)) tag at i) a b → Adds (OfForest P (moved s (s.place + 1)) i) b c → Adds (OfForest P s (element tag at i none)) a c
adds_element P s tag at i a b c p q = adds_then (OfForest P s (element tag at i none)) p q (λ f k. elim k [ inl l ↦ inl l | inr l ↦ inr (inl l) ])
    (λ f k. elim k [ inl l ↦ inl l | inr l ↦ elim l [ inl m ↦ inr m | inr m ↦ absurd m ] ])

pub elements_next : (xs : List Item) (i : ℕ) (x : Item) → x ≡ get_or xs i x → i < length xs
    → elements (forest (take (i + 1) xs)) ≡ elements (forest (take i xs)) + elements (before x none)
elements_next xs i x e h = ap elements (forest-take xs i x e h) ∙ elements-append (forest (take i xs)) (before x none)
