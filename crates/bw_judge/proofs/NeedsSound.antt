-- A formula that is sure holds in each unfolding.
use Rattle.std.proofs.Common.{◌≡◌, inl, inr, ℕ, zero, suc, ◌<◌, Bool, true, false, ◌||◌, ◌&&◌, not, List, length, get_or, refl, ap, sym, ◌∙◌, subst, arith}
use Rattle.std.proofs.Math.Bool.{and-false}
use Rattle.std.specs.List.{list_any}
use Rattle.std.proofs.lemmas.Bool.{false≢true, cases_Bool, or_left, or_right, and_parts, and_from, not-true}
use Rattle.std.proofs.lemmas.Slice.Eq.{bytes_eq-Decides}
use Rattle.bw_lang.specs.declared.items.Attr.{Attr}
use Rattle.bw_lang.specs.declared.items.AttrValue.{AttrValue}
use Rattle.bw_lang.specs.Document.Forest.{Forest, none, text, gap, element}
use Rattle.bw_lang.specs.Document.Documents.{append}
use Rattle.bw_lang.specs.Table.Names.{same}
use Rattle.bw_schema.specs.Words.{is_among}
use Rattle.bw_schema.specs.Needs.{nothing, all_of, some_of, attr, one_value, content, order}
use Rattle.bw_schema.specs.Validity.{is_fixed, each_child, joined, is_other, value_in, ordered}
use Rattle.bw_sum.specs.Graph.{Graph}
use Rattle.bw_sum.specs.Unfolding.{FillsValue, kept, left_open, said_in, FillsAttrs, no_more, more, Fills, end, words, inside, left, said, led}
use Rattle.bw_shape.specs.Shape as shape
use Rattle.bw_shape.specs.Shape.{Gives, tagged, Misses, Crossing}
use Rattle.bw_shape.proofs.Outcomes.{sure}
use Rattle.bw_judge.specs.Faults as fault
use Rattle.bw_judge.specs.Faults.{MayBe, IsSureValue, SureAttr, SureOne, Both, Ends}
use Rattle.bw_judge.specs.Soundness.{SureHolds}

pub child_append : (p : List ℕ → Bool) (d e : Forest) → each_child p d ≡ true → each_child p e ≡ true → each_child p (append d e) ≡ true
child_append p none e h k = k
child_append p (text s r) e h k = child_append p r e h k
child_append p (gap g r) e h k = child_append p r e h k
child_append p (element tag a i r) e h k = let q = and_parts _ _ h in and_from _ _ q.0 (child_append p r e q.1 k)

-- the test of an attribute that is sure
any_filled : {G : Graph} {n : ℕ} {a b : List Attr} (x : List ℕ) (p : AttrValue → Bool) → FillsAttrs G n a b → (k : ℕ) (c : Attr)
    → k < length a → get_or a k c ≡ c → same c.name x ≡ true
    → ((v : AttrValue) → FillsValue G n c.value v → p v ≡ true) → list_any (λ d. same d.name x && p d.value) b ≡ true
any_filled x p no_more k c l e h f = absurd (omega arith)
any_filled {G = G} {n = n} x p (more {x = y} {u = u} {v = v} {a = a} {b = b} q r) zero c l e h f =
    or_left _ _ (and_from _ _ (ap (λ d. same d.name x) e ∙ h) (f v (subst (λ d. FillsValue G n d.value v) e q)))
any_filled x p (more {x = y} {u = u} {v = v} {a = a} {b = b} q r) (suc k) c l e h f =
    or_right (same y x && p v) _ (any_filled x p r k c (omega (arith, l)) e h f)

stays : {G : Graph} {n : ℕ} {u v : AttrValue} → FillsValue G n u v → IsSureValue G n u → is_fixed v ≡ true
stays kept h = refl
stays (left_open k) h = absurd (false≢true (sym h ∙ k))
stays (said_in k) h = refl

stays_in : {G : Graph} {n : ℕ} {u v : AttrValue} (vs : List (List ℕ)) → FillsValue G n u v → IsSureValue G n u
    → ((s : List ℕ) → MayBe G n u s → is_among vs s ≡ true) → value_in vs v ≡ true
stays_in vs (kept {s = s}) h f = f s fault.fixed
stays_in vs (left_open k) h f = absurd (false≢true (sym h ∙ k))
stays_in vs (said_in {s = s} k) h f = f s (fault.said k)

each_parts : (x : List ℕ) (d e : Forest) → each_child (is_other x) (append d e) ≡ true → (each_child (is_other x) d ≡ true) × (each_child (is_other x) e ≡ true)
each_parts x none e h = (refl, h)
each_parts x (text s r) e h = each_parts x r e h
each_parts x (gap g r) e h = each_parts x r e h
each_parts x (element tag a i r) e h = let k = and_parts _ _ h in let l = each_parts x r e k.1 in (and_from _ _ k.0 l.0, l.1)

-- where an unfolding has no x at its top, its template may miss it
misses_by : {templates : ℕ → Forest} {G : Graph} (x : List ℕ) {n : ℕ} {t d : Forest} → Fills templates G n t d
    → each_child (is_other x) d ≡ true → Misses templates G x n t
misses_by x end h = shape.end
misses_by x (words r) h = shape.words (misses_by x r h)
misses_by x (inside q i r) h = let k = and_parts _ _ h in shape.other (not-true _ k.0) (misses_by x r k.1)
misses_by x (left l r) h = shape.left l (misses_by x r h)
misses_by x (said l r) h = shape.said l (misses_by x r h)
misses_by x (led {d = d} {e = e} l i r) h = let k = each_parts x e d h in shape.led l (misses_by x i k.0) (misses_by x r k.1)

-- bytes that compare equal
same_bytes : (a b : List ℕ) → same a b ≡ true → a ≡ b
same_bytes a b h = (bytes_eq-Decides a b).0 h

not_other : (x tag : List ℕ) → is_other x tag ≡ false → tag ≡ x
not_other x tag h = elim (cases_Bool (same tag x)) [
  | inl it ↦ same_bytes tag x it
  | inr isnt ↦ absurd (false≢true (sym h ∙ ap not isnt))
]

-- a test of all children that cannot fail at a tag that the template gives
others_by : {templates : ℕ → Forest} {G : Graph} (x : List ℕ) {n : ℕ} {t d : Forest} → Fills templates G n t d
    → (Gives templates G n t (tagged x) → ⊥) → each_child (is_other x) d ≡ true
others_by x end h = refl
others_by x (words r) h = others_by x r (λ k. h (shape.after_text k))
others_by {templates = templates} {G = G} x (inside {n = n} {tag = tag} {a = a} {i = i} {t = t} q f r) h =
    and_from _ _ (sure (is_other x tag) (λ e. h (subst (λ y. Gives templates G n (element tag a i t) (tagged y)) (not_other x tag e) shape.element_here)))
    (others_by x r (λ k. h (shape.after_element k)))
others_by x (left l r) h = others_by x r (λ k. h (shape.after_gap k))
others_by x (said l r) h = others_by x r (λ k. h (shape.after_gap k))
others_by x (led {d = d} {e = e} l i r) h = child_append (is_other x) e d (others_by x i (λ k. h (shape.led l k))) (others_by x r (λ k. h (shape.after_gap k)))

ordered_append : (x y : List ℕ) (d e : Forest) → ordered x y d ≡ true → ordered x y e ≡ true
    → (each_child (is_other y) d ≡ false → each_child (is_other x) e ≡ true) → ordered x y (append d e) ≡ true
ordered_append x y none e h k f = k
ordered_append x y (text s r) e h k f = ordered_append x y r e h k f
ordered_append x y (gap g r) e h k f = ordered_append x y r e h k f
ordered_append x y (element tag a i r) e h k f =
    let q = and_parts _ _ h in
    and_from _ _
    (elim (cases_Bool (is_other y tag)) [
      | inl it ↦ or_left (is_other y tag) (each_child (is_other x) (append r e)) it
      | inr isnt ↦ or_right (is_other y tag) _
          (child_append (is_other x) r e (ap (λ b. b || each_child (is_other x) r) (sym isnt) ∙ q.0) (f (ap (λ b. b && each_child (is_other y) r) isnt)))
    ])
    (ordered_append x y r e q.1 k (λ l. f (ap (λ b. is_other y tag && b) l ∙ and-false (is_other y tag))))

fails : (b : Bool) → b ≡ false → b ≡ true → ⊥
fails b p q = false≢true (sym p ∙ q)

ordered_by : {templates : ℕ → Forest} {G : Graph} (x y : List ℕ) {n : ℕ} {t d : Forest} → Fills templates G n t d
    → (Crossing templates G x y n t → ⊥) → ordered x y d ≡ true
ordered_by x y end h = refl
ordered_by x y (words r) h = ordered_by x y r (λ k. h (shape.after_text k))
ordered_by {templates = templates} {G = G} x y (inside {n = n} {tag = tag} {a = a} {i = k} {t = t} {d = d} q i r) h =
    and_from _ _
    (elim (cases_Bool (is_other y tag)) [
      | inl it ↦ or_left (is_other y tag) (each_child (is_other x) d) it
      | inr isnt ↦ or_right (is_other y tag) _
          (others_by x r (λ g. h (subst (λ z. Crossing templates G x y n (element z a k t)) (sym (not_other y tag isnt)) (shape.element_first g))))
    ])
    (ordered_by x y r (λ k. h (shape.after_element k)))
ordered_by x y (left l r) h = ordered_by x y r (λ k. h (shape.after_gap k))
ordered_by x y (said l r) h = ordered_by x y r (λ k. h (shape.after_gap k))
ordered_by x y (led {d = d} {e = e} l i r) h =
    ordered_append x y e d (ordered_by x y i (λ k. h (shape.within l k))) (ordered_by x y r (λ k. h (shape.after_gap k)))
    (λ f. sure (each_child (is_other x) d) (λ g. fails _ f (others_by y i (λ k. fails _ g (others_by x r (λ j. h (shape.gap_first l k j)))))))

pub joined_by : (b : Bool) {P Q : Type 0} (p q : Bool) → (P → p ≡ true) → (Q → q ≡ true) → Both b P Q → joined b p q ≡ true
joined_by true p q f g h = and_from _ _ (f h.0) (g h.1)
joined_by false p q f g (inl h) = or_left _ _ (f h)
joined_by false p q f g (inr h) = or_right p _ (g h)

pub sure_holds : SureHolds
sure_holds templates G n a b i j q f all nothing h = ends all h
  where
    ends : (all : Bool) → Ends all → all ≡ true
    ends true h = refl
    ends false h = absurd h
sure_holds templates G n a b i j q f all (all_of parts rest) h =
    joined_by all _ _ (λ k. sure_holds templates G n a b i j q f true parts k) (λ k. sure_holds templates G n a b i j q f all rest k) h
sure_holds templates G n a b i j q f all (some_of parts rest) h =
    joined_by all _ _ (λ k. sure_holds templates G n a b i j q f false parts k) (λ k. sure_holds templates G n a b i j q f all rest k) h
sure_holds templates G n a b i j q f all (attr x rest) h =
    joined_by all _ _ (λ (k : SureAttr G n a x). any_filled x is_fixed q k.1.0 k.0 k.1.1 k.1.2 k.2 (λ v w. stays w k.3))
    (λ k. sure_holds templates G n a b i j q f all rest k) h
sure_holds templates G n a b i j q f all (one_value x vs rest) h =
    joined_by all _ _ (λ (k : SureOne G n a x vs). any_filled x (value_in vs) q k.1.0 k.0 k.1.1 k.1.2 k.2 (λ v w. stays_in vs w k.3 k.4))
    (λ k. sure_holds templates G n a b i j q f all rest k) h
sure_holds templates G n a b i j q f all (content x rest) h =
    joined_by all _ _ (λ (k : Misses templates G x n i → ⊥). ap not (never (each_child (is_other x) j) (λ e. k (misses_by x f e))))
    (λ k. sure_holds templates G n a b i j q f all rest k) h
  where
    never : (b : Bool) → (b ≡ true → ⊥) → b ≡ false
    never true h = absurd (h refl)
    never false h = refl
sure_holds templates G n a b i j q f all (order x y rest) h =
    joined_by all _ _ (λ (k : Crossing templates G x y n i → ⊥). ordered_by x y f k) (λ k. sure_holds templates G n a b i j q f all rest k) h
