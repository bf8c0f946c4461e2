-- Without faults each unfolding is valid.
use Rattle.std.proofs.Common.{◌≡◌, inl, inr, ℕ, suc, Bool, true, false, ◌||◌, ◌&&◌, List, [], ◌∷◌, Option, Some, None, IfSome, refl, ap, sym, ◌∙◌, subst, arith}
use Rattle.std.specs.List.{list_all, Contains}
use Rattle.std.proofs.lemmas.Bool.{false≢true, cases_Bool, or_left, or_right, and_parts, and_from}
use Rattle.bw_lang.specs.declared.items.Attr.{Attr}
use Rattle.bw_lang.specs.declared.items.AttrValue.{AttrValue}
use Rattle.bw_lang.specs.declared.items.AttrValue.TheVariants.{Hole}
use Rattle.bw_lang.specs.Document.Forest.{Forest, none, text, gap, element}
use Rattle.bw_lang.specs.Document.Documents.{append}
use Rattle.bw_lang.specs.Table.Names.{same}
use Rattle.bw_schema.specs.declared.rules.Rule.{Rule}
use Rattle.bw_lang.specs.Text.Bytes.{is_blank_text}
use Rattle.bw_schema.specs.Words.{is_among}
use Rattle.bw_schema.specs.Rules.{allows, permits, rule_of}
use Rattle.bw_schema.specs.Validity.{on_fixed, each_fixed, is_fixed, has_fixed, each_child, each_text, holds, Obeys, Follows, EveryElement, is_bare, is_rooted}
use Rattle.bw_schema.proofs.ValidLaws.{valid_closed}
use Rattle.bw_sum.specs.Graph.{Graph}
use Rattle.bw_sum.specs.Unfolding.{FillsValue, kept, left_open, said_in, FillsAttrs, no_more, more, Fills, end, words, inside, left, said, led}
use Rattle.bw_shape.specs.Shape as shape
use Rattle.bw_shape.specs.Shape.{Reached, root_is, along, Gives, tagged, wordy}
use Rattle.bw_shape.proofs.Outcomes.{sure}
use Rattle.bw_judge.specs.Scene.{has_attr}
use Rattle.bw_judge.specs.Faults as fault
use Rattle.bw_judge.specs.Faults.{At, MayBe, Breaks, fault_in}
use Rattle.bw_judge.specs.Soundness.{NoFaultIsValid}
use Rattle.bw_judge.proofs.NeedsSound.{child_append, sure_holds}

pub first_in : {X : Type 0} (x : X) (xs : List X) → Contains (x ∷ xs) x
first_in x xs = (0, omega arith, refl)

pub later_in : {X : Type 0} (x y : X) (xs : List X) → Contains xs y → Contains (x ∷ xs) y
later_in x y xs c = (suc c.0, omega (arith, c.1), c.2)

-- a test that no element can fail holds of all
pub all_sure : {X : Type 0} (p : X → Bool) (xs : List X) → ((x : X) → Contains xs x → p x ≡ true) → list_all p xs ≡ true
all_sure p [] h = refl
all_sure p (x ∷ xs) h = ap (λ b. b && list_all p xs) (h x (first_in x xs)) ∙ all_sure p xs (λ y c. h y (later_in x y xs c))

-- what holds at each place holds of every element
pub every_at : (P : List ℕ → List Attr → Forest → Type 0) (t : Forest)
    → ((k : ℕ) (tag : List ℕ) (a : List Attr) (i : Forest) → At t k tag a i → P tag a i) → EveryElement P t
every_at P none h = tt
every_at P (text s r) h = every_at P r (λ k tag a i m. h k tag a i (fault.after_text m))
every_at P (gap g r) h = every_at P r (λ k tag a i m. h k tag a i (fault.after_gap m))
every_at P (element t b j r) h =
    (h _ t b j fault.here, (every_at P j (λ k tag a i m. h _ tag a i (fault.inside m)), every_at P r (λ k tag a i m. h _ tag a i (fault.after_element m))))

pub every_append : (P : List ℕ → List Attr → Forest → Type 0) (d e : Forest) → EveryElement P d → EveryElement P e → EveryElement P (append d e)
every_append P none e h k = k
every_append P (text s r) e h k = every_append P r e h k
every_append P (gap g r) e h k = every_append P r e h k
every_append P (element tag a i r) e h k = (h.0, (h.1.0, every_append P r e h.1.1 k))

pub text_append : (p : List ℕ → Bool) (d e : Forest) → each_text p d ≡ true → each_text p e ≡ true → each_text p (append d e) ≡ true
text_append p none e h k = k
text_append p (text s r) e h k = let q = and_parts _ _ h in and_from _ _ q.0 (text_append p r e q.1 k)
text_append p (gap g r) e h k = text_append p r e h k
text_append p (element tag a i r) e h k = text_append p r e h k

value_by : {G : Graph} (p : List ℕ → List ℕ → Bool) (x : List ℕ) {n : ℕ} {u v : AttrValue} → FillsValue G n u v
    → ((s : List ℕ) → MayBe G n u s → p x s ≡ true) → on_fixed p x v ≡ true
value_by p x (kept {s = s}) h = h s fault.fixed
value_by p x (left_open k) h = refl
value_by p x (said_in {s = s} k) h = h s (fault.said k)

pub fixed_by : {G : Graph} (p : List ℕ → List ℕ → Bool) {n : ℕ} {a b : List Attr} → FillsAttrs G n a b
    → ((c : Attr) → Contains a c → (s : List ℕ) → MayBe G n c.value s → p c.name s ≡ true) → each_fixed p b ≡ true
fixed_by p no_more h = refl
fixed_by p (more {x = x} {u = u} {v = v} {a = a} q r) h =
    and_from _ _ (value_by p x q (h (record { name = x; value = u }) (first_in _ a))) (fixed_by p r (λ c k. h c (later_in _ c a k)))

value_has : {G : Graph} {n : ℕ} {u v : AttrValue} → FillsValue G n u v → ((g : ℕ) → u ≡ Hole g → G.track g n ≡ true → ⊥) → is_fixed v ≡ true
value_has kept h = refl
value_has (left_open {g = g} k) h = absurd (h g refl k)
value_has (said_in k) h = refl

pub has_by : {G : Graph} (x : List ℕ) {n : ℕ} {a b : List Attr} → FillsAttrs G n a b → has_attr a x ≡ true
    → ((c : Attr) → Contains a c → same c.name x ≡ true → (g : ℕ) → c.value ≡ Hole g → G.track g n ≡ true → ⊥) → has_fixed b x ≡ true
has_by x no_more o h = absurd (false≢true o)
has_by x (more {x = y} {u = u} {v = v} {a = a} {b = b} q r) o h = elim (cases_Bool (same y x)) [
  | inl it ↦ or_left (same y x && is_fixed v) (has_fixed b x) (and_from _ _ it (value_has q (h (record { name = y; value = u }) (first_in _ a) it)))
  | inr other ↦ or_right (same y x && is_fixed v) (has_fixed b x) (has_by x r (sym (ap (λ t. t || has_attr a x) other) ∙ o) (λ c k. h c (later_in _ c a k)))
]

pub child_by : {templates : ℕ → Forest} {G : Graph} (p : List ℕ → Bool) {n : ℕ} {t d : Forest} → Fills templates G n t d
    → ((x : List ℕ) → Gives templates G n t (tagged x) → p x ≡ true) → each_child p d ≡ true
child_by p end h = refl
child_by p (words r) h = child_by p r (λ x k. h x (shape.after_text k))
child_by p (inside {tag = tag} q i r) h = and_from _ _ (h tag shape.element_here) (child_by p r (λ x k. h x (shape.after_element k)))
child_by p (left l r) h = child_by p r (λ x k. h x (shape.after_gap k))
child_by p (said l r) h = child_by p r (λ x k. h x (shape.after_gap k))
child_by p (led {d = d} {e = e} l i r) h = child_append p e d (child_by p i (λ x k. h x (shape.led l k))) (child_by p r (λ x k. h x (shape.after_gap k)))

pub text_by : {templates : ℕ → Forest} {G : Graph} {n : ℕ} {t d : Forest} → Fills templates G n t d
    → (Gives templates G n t wordy → ⊥) → each_text is_blank_text d ≡ true
text_by end h = refl
text_by (words {s = s} r) h = and_from _ _ (sure (is_blank_text s) (λ e. h (shape.text_here e))) (text_by r (λ k. h (shape.after_text k)))
text_by (inside q i r) h = text_by r (λ k. h (shape.after_element k))
text_by (left l r) h = text_by r (λ k. h (shape.after_gap k))
text_by (said {s = s} l r) h = and_from _ _ (sure (is_blank_text s) (λ e. h (shape.said l e))) (text_by r (λ k. h (shape.after_gap k)))
text_by (led {d = d} {e = e} l i r) h = text_append is_blank_text e d (text_by i (λ k. h (shape.led l k))) (text_by r (λ k. h (shape.after_gap k)))

-- nothing that an element of template n may break
abbrev Unbroken : (ℕ → Forest) → Graph → List Rule → ℕ → List ℕ → List Attr → Forest → Type 0
Unbroken templates G rules n tag a i = (r : Rule) → rule_of rules tag ≡ Some r → (number : ℕ) (detail : List ℕ)
    → Breaks templates G n r tag a i number detail → ⊥

obeys : (templates : ℕ → Forest) (G : Graph) (r : Rule) (tag : List ℕ) {n : ℕ} {a b : List Attr} {i j : Forest} → FillsAttrs G n a b → Fills templates G n i j
    → ((number : ℕ) (detail : List ℕ) → Breaks templates G n r tag a i number detail → ⊥) → Obeys r b j
obeys templates G r tag {n = n} {a = a} {b = b} {i = i} {j = j} q f h = record {
  allowed = fixed_by (λ x v. allows r x) q (λ c k s m. sure _ (λ e. h 1 c.name (fault.attribute k m e)));
  required = all_sure _ r.must (λ x k. has_by x q (sure _ (λ e. h 2 x (fault.absent k e))) (λ c w it g is l. h 2 x (fault.unsure k w it is l)));
  values = fixed_by (permits r.values) q (λ c k s m. sure _ (λ e. h 3 c.name (fault.value k m e)));
  children = child_by (is_among r.has) f (λ x k. sure _ (λ e. h 4 x (fault.child k e)));
  texts = elim (cases_Bool r.text) [
    | inl yes_text ↦ or_left _ _ yes_text
    | inr no_text ↦ or_right r.text _ (text_by f (λ k. h 5 _ (fault.words k no_text)))
  ];
  needs = sure (holds true r.needs b j) (λ e. h 7 tag (fault.need (λ k. false≢true (sym e ∙ sure_holds templates G n a b i j q f true r.needs k))));
}

follows : (templates : ℕ → Forest) (G : Graph) (rules : List Rule) (tag : List ℕ) (o : Option Rule) {n : ℕ} {a b : List Attr} {i j : Forest}
    → rule_of rules tag ≡ o
    → FillsAttrs G n a b → Fills templates G n i j → Unbroken templates G rules n tag a i → IfSome o (λ r. Obeys r b j)
follows templates G rules tag None e q f h = tt
follows templates G rules tag (Some r) e q f h = obeys templates G r tag q f (h r e)

module _ (templates : ℕ → Forest) (G : Graph) (root : ℕ) (rules : List Rule)
    (none_broken : (n : ℕ) → Reached G root n → EveryElement (Unbroken templates G rules n) (templates n)) where
  pub fills_valid : {n : ℕ} {t d : Forest} → Reached G root n → EveryElement (Unbroken templates G rules n) t
      → Fills templates G n t d → EveryElement (Follows rules) d
  fills_valid w h end = tt
  fills_valid w h (words r) = fills_valid w h r
  fills_valid w h (inside {tag = tag} q i r) = (follows templates G rules tag (rule_of rules tag) refl q i h.0, (fills_valid w h.1.0 i, fills_valid w h.1.1 r))
  fills_valid w h (left l r) = fills_valid w h r
  fills_valid w h (said l r) = fills_valid w h r
  fills_valid w h (led {m = m} {d = d} {e = e} l i r) =
      every_append (Follows rules) e d (fills_valid (along w l) (none_broken m (along w l)) i) (fills_valid w h r)

is_none : Forest → Bool
is_none none = true
is_none (text s r) = false
is_none (gap g r) = false
is_none (element tag a i r) = false

is_one : List ℕ → Forest → Bool
is_one root none = false
is_one root (text s r) = false
is_one root (gap g r) = false
is_one root (element tag a i r) = same tag root && is_none r

bare_by : {templates : ℕ → Forest} {G : Graph} {n : ℕ} {t d : Forest} → Fills templates G n t d → is_none t ≡ true → is_bare d ≡ true
unfolding is_none
bare_by end h = refl
bare_by (words r) h = absurd (false≢true h)
bare_by (inside q i r) h = absurd (false≢true h)
bare_by (left l r) h = absurd (false≢true h)
bare_by (said l r) h = absurd (false≢true h)
bare_by (led l i r) h = absurd (false≢true h)

rooted_by : {templates : ℕ → Forest} {G : Graph} (root : List ℕ) {n : ℕ} {t d : Forest} → Fills templates G n t d
    → is_one root t ≡ true → is_rooted root d ≡ true
unfolding is_one
rooted_by root end h = absurd (false≢true h)
rooted_by root (words r) h = absurd (false≢true h)
rooted_by root (inside q i r) h = let k = and_parts _ _ h in and_from _ _ k.0 (bare_by r k.1)
rooted_by root (left l r) h = absurd (false≢true h)
rooted_by root (said l r) h = absurd (false≢true h)
rooted_by root (led l i r) h = absurd (false≢true h)

is_one_of : (root tag : List ℕ) (a : List Attr) (i : Forest) → same tag root ≡ true → is_one root (element tag a i none) ≡ true
unfolding is_one is_none
is_one_of root tag a i h = and_from _ _ h refl

pub no_fault_valid : NoFaultIsValid
no_fault_valid templates G root s point wrapper h d u =
    let e = wrapper.3 in
    let same_root = sure (same wrapper.0 s.root) (λ k. h (fault_in point 6 root 1 wrapper.0) (fault.wrong_root e k)) in
    let each : (n : ℕ) → Reached G root n → EveryElement (Unbroken templates G s.elements n) (templates n) =
    λ n w. every_at (Unbroken templates G s.elements n) (templates n)
    (λ k tag a i m r is number detail b. h (fault_in point number n k detail) (fault.breaks w m is b)) in
    valid_closed s d (record {
      root = rooted_by s.root u (subst (λ t. is_one s.root t ≡ true) (sym e) (is_one_of s.root wrapper.0 wrapper.1 wrapper.2 same_root));
      each = fills_valid templates G root s.elements each root_is (each root root_is) u;
    })
