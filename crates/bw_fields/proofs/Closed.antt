-- The fields of the pages that a graph unfolds to.
use Rattle.std.proofs.Common.{◌≡◌, inl, inr, ℕ, ◌<◌, ◌≤◌, ◌==◌, Bool, true, false, ◌||◌, ◌&&◌, not, List, [], ◌∷◌, ◌++◌, length, Option, Some, None, refl, ap}
use Rattle.std.proofs.Common.{sym, ◌∙◌, subst, arith, cond, count_by, append_assoc}
use Rattle.std.specs.Prelude.{codes, if◌then◌else◌}
use Rattle.std.specs.List.{list_all, list_any}
use Rattle.std.proofs.lemmas.Bool.{false≢true, cases_Bool, or_left, or_right, and_parts, and_from}
use Rattle.std.proofs.lemmas.List.Folds.{list_any-append, list_all-append}
use Rattle.std.proofs.lemmas.List.Sums.{sum_by-append, sum_by-cons}
use Rattle.std.proofs.lemmas.Slice.Eq.{bytes_eq-Decides}
use borrow.Author.Tests.{eqb-true, eq-eqb}
use Rattle.bw_lang.specs.declared.items.Attr.{Attr}
use Rattle.bw_lang.specs.declared.items.AttrValue.{AttrValue}
use Rattle.bw_lang.specs.declared.items.AttrValue.TheVariants.{Fixed, Hole}
use Rattle.bw_lang.specs.declared.controls.FieldKind.{FieldKind}
use Rattle.bw_lang.specs.Document.Forest.{Forest, none, text, gap, element}
use Rattle.bw_lang.specs.Document.Documents.{append, close, closed_attrs, keep_fixed, one_if}
use Rattle.bw_lang.specs.Table.Names.{same, name_number}
use Rattle.bw_lang.specs.Template.Controls.{fixed, fixed_value, is_control, control_name, field_kind, named_kind, field_of, fields}
use Rattle.bw_sum.specs.Graph.{Graph}
use Rattle.bw_shape.specs.Tests.{stands, is_field}
use Rattle.bw_shape.specs.Shape.{Lacks, Doubles}
use Rattle.bw_sum.specs.Unfolding.{FillsValue, kept, left_open, said_in, FillsAttrs, no_more, more, Fills, end, words, inside, left, said, led}
use Rattle.bw_shape.proofs.Links.{same_number}
use Rattle.bw_fields.specs.Plain.{is_fixed, is_given, is_plain, ArePlain, controls}
use Rattle.bw_types.specs.Fields.{kind_of_field}
use Rattle.bw_fields.specs.Found.{is_misfit, fault_of}
use Rattle.bw_fields.specs.Received as received
use Rattle.bw_fields.specs.Received.{names_of, is_of_kind}
use Rattle.bw_fields.specs.Laws.{FieldIsThere}
use Rattle.bw_fields.proofs.Sound.{implied, by_values, same_field, no_lack_there}
use Rattle.bw_fields.proofs.Twice.{not_twice}

-- closing drops no fixed attribute of a name that no gap has
closed_value : (x : List ℕ) (a : List Attr) → is_given x a ≡ true → fixed x (closed_attrs a) ≡ fixed x a
closed_value x [] h = refl
closed_value x (a ∷ rest) h = let k = and_parts _ _ h in keep a.value refl k.0 (closed_value x rest k.1)
  where
    keep : (v : AttrValue) → a.value ≡ v → (not (same a.name x) || is_fixed a.value) ≡ true → fixed x (closed_attrs rest) ≡ fixed x rest
        → fixed x (keep_fixed a v (closed_attrs rest)) ≡ fixed x (a ∷ rest)
    keep (Fixed s) e g r = ap (λ o. if same a.name x then fixed_value a.value else o) r
    keep (Hole g) e f r = elim (cases_Bool (same a.name x)) [
      | inl it ↦ absurd (false≢true (sym (ap (λ v. is_fixed v) e) ∙ implied (same a.name x) (is_fixed a.value) f it))
      | inr isnt ↦ r ∙ sym (ap (λ b. if b then fixed_value a.value else fixed x rest) isnt)
    ]

closed_field : (tag : List ℕ) (a : List Attr) → is_plain tag a ≡ true → field_of tag (closed_attrs a) ≡ field_of tag a
closed_field tag a h = elim (cases_Bool (is_control tag)) [
  | inl it ↦
      let k = and_parts _ _ (implied (is_control tag) _ h it) in
      let l = and_parts _ _ k.1 in
      ap (λ n. by_values (is_control tag) tag n (fixed (codes "type") (closed_attrs a)) (fixed (codes "multiple") (closed_attrs a)))
      (closed_value (codes "name") a k.0)
      ∙ ap (λ t. by_values (is_control tag) tag (fixed (codes "name") a) t (fixed (codes "multiple") (closed_attrs a))) (closed_value (codes "type") a l.0)
      ∙ ap (λ m. by_values (is_control tag) tag (fixed (codes "name") a) (fixed (codes "type") a) m) (closed_value (codes "multiple") a l.1)
  | inr isnt ↦
      ap (λ c. by_values c tag (fixed (codes "name") (closed_attrs a)) (fixed (codes "type") (closed_attrs a)) (fixed (codes "multiple") (closed_attrs a))) isnt
      ∙ sym (ap (λ c. by_values c tag (fixed (codes "name") a) (fixed (codes "type") a) (fixed (codes "multiple") a)) isnt)
]

pub closed_fields : (d : Forest) → ArePlain d → fields (close d) ≡ fields d
closed_fields none p = refl
closed_fields (text s r) p = closed_fields r p
closed_fields (gap g r) p = closed_fields r p
closed_fields (element tag a i r) p =
    ap (λ o. o ++ (fields (close i) ++ fields (close r))) (closed_field tag a p.0)
    ∙ ap (λ o. field_of tag a ++ (o ++ fields (close r))) (closed_fields i p.1.0) ∙ ap (λ o. field_of tag a ++ (fields i ++ o)) (closed_fields r p.1.1)

-- what plain templates unfold to is plain
given_stays : {G : Graph} {n : ℕ} {a b : List Attr} (x : List ℕ) → FillsAttrs G n a b → is_given x a ≡ true → is_given x b ≡ true
given_stays x no_more h = refl
given_stays x (more {x = y} {u = u} {v = v} {a = a} {b = b} q r) h = let k = and_parts _ _ h in
    and_from (not (same y x) || is_fixed v) (is_given x b) (fixed_stays (same y x) q k.0) (given_stays x r k.1)
  where
    fixed_stays : {G : Graph} {n : ℕ} {u v : AttrValue} (b : Bool) → FillsValue G n u v → (not b || is_fixed u) ≡ true → (not b || is_fixed v) ≡ true
    fixed_stays b kept h = h
    fixed_stays b (left_open k) h = h
    fixed_stays true (said_in k) h = refl
    fixed_stays false (said_in k) h = refl

plain_stays : {G : Graph} {n : ℕ} {a b : List Attr} (tag : List ℕ) → FillsAttrs G n a b → is_plain tag a ≡ true → is_plain tag b ≡ true
plain_stays {a = a} {b = b} tag q h = elim (cases_Bool (is_control tag)) [
  | inl it ↦
      let k = and_parts _ _ (implied (is_control tag) _ h it) in
      let l = and_parts _ _ k.1 in
      or_right (not (is_control tag)) _
      (and_from (is_given (codes "name") b) _ (given_stays (codes "name") q k.0)
      (and_from (is_given (codes "type") b) _ (given_stays (codes "type") q l.0) (given_stays (codes "multiple") q l.1)))
  | inr isnt ↦ or_left (not (is_control tag)) _ (ap not isnt)
]

plain_append : (d e : Forest) → ArePlain d → ArePlain e → ArePlain (append d e)
plain_append none e p q = q
plain_append (text s r) e p q = plain_append r e p q
plain_append (gap g r) e p q = plain_append r e p q
plain_append (element tag a i r) e p q = (p.0, (p.1.0, plain_append r e p.1.1 q))

pub plain_by : {templates : ℕ → Forest} {G : Graph} → ((n : ℕ) → ArePlain (templates n)) → {n : ℕ} {t d : Forest}
    → ArePlain t → Fills templates G n t d → ArePlain d
plain_by all p end = tt
plain_by all p (words r) = plain_by all p r
plain_by all p (inside {tag = tag} q i r) = (plain_stays tag q p.0, (plain_by all p.1.0 i, plain_by all p.1.1 r))
plain_by all p (left l r) = plain_by all p r
plain_by all p (said l r) = plain_by all p r
plain_by all p (led {m = m} {d = d} {e = e} l i r) = plain_append e d (plain_by all (all m) i) (plain_by all p r)

fields_append : (d e : Forest) → fields (append d e) ≡ fields d ++ fields e
fields_append none e = refl
fields_append (text s r) e = fields_append r e
fields_append (gap g r) e = fields_append r e
fields_append (element tag a i r) e =
    ap (λ o. field_of tag a ++ (fields i ++ o)) (fields_append r e) ∙ ap (λ o. field_of tag a ++ o) (sym (append_assoc (fields i) (fields r) (fields e)))
    ∙ sym (append_assoc (field_of tag a) (fields i ++ fields r) (fields e))

-- a test of each field of the templates holds of each field of what they unfold to
pub all_by : {templates : ℕ → Forest} {G : Graph} (p : List ℕ × FieldKind → Bool) → ((n : ℕ) → ArePlain (templates n))
    → ((n : ℕ) → list_all p (fields (templates n)) ≡ true)
    → {n : ℕ} {t d : Forest} → ArePlain t → list_all p (fields t) ≡ true → Fills templates G n t d → list_all p (fields d) ≡ true
all_by p all h k e end = refl
all_by p all h k e (words r) = all_by p all h k e r
all_by p all h k e (inside {tag = tag} {a = a} {b = b} {i = i} {j = j} {t = t} {d = d} q f r) =
    let u = and_parts _ _ (sym (list_all-append p (field_of tag a) (fields i ++ fields t)) ∙ e) in
    let v = and_parts _ _ (sym (list_all-append p (fields i) (fields t)) ∙ u.1) in
    list_all-append p (field_of tag b) (fields j ++ fields d)
    ∙ and_from _ _ (ap (list_all p) (same_field tag q k.0) ∙ u.0)
    (list_all-append p (fields j) (fields d) ∙ and_from _ _ (all_by p all h k.1.0 v.0 f) (all_by p all h k.1.1 v.1 r))
all_by p all h k e (left l r) = all_by p all h k e r
all_by p all h k e (said l r) = all_by p all h k e r
all_by p all h k e (led {m = m} {d = d} {e = x} l i r) =
    ap (list_all p) (fields_append x d) ∙ list_all-append p (fields x) (fields d)
    ∙ ap (λ b. b && list_all p (fields d)) (all_by p all h (all m) (h m) i) ∙ all_by p all h k e r

-- the tests of the shape are tests of the list of fields
stands_is : (names : List (List ℕ)) (f : ℕ) (d : Forest) → stands names f d ≡ list_any (λ x. name_number names x.0 == f) (fields d)
stands_is names f none = refl
stands_is names f (text s r) = stands_is names f r
stands_is names f (gap g r) = stands_is names f r
stands_is names f (element tag a i r) =
    let p : List ℕ × FieldKind → Bool = λ x. name_number names x.0 == f in
    ap (λ b. is_field names f tag a || (b || stands names f r)) (stands_is names f i)
    ∙ ap (λ b. is_field names f tag a || (list_any p (fields i) || b)) (stands_is names f r)
    ∙ ap (λ b. is_field names f tag a || b) (sym (list_any-append p (fields i) (fields r))) ∙ sym (list_any-append p (field_of tag a) (fields i ++ fields r))

one_counted : (p : List ℕ × FieldKind → Bool) (n : Option (List ℕ)) (k : Option FieldKind) → count_by p (named_kind n k) ≡ one_if (list_any p (named_kind n k))
one_counted p None k = refl
one_counted p (Some n) None = refl
one_counted p (Some n) (Some k) = omega (arith, sum_by-cons (λ (y : List ℕ × FieldKind). cond (p y) 1 0) (n, k) [], or_none (p (n, k)))
  where
    or_none : (b : Bool) → one_if (b || false) ≡ cond b 1 0
    or_none true = refl
    or_none false = refl

controls_is : (names : List (List ℕ)) (f : ℕ) (d : Forest) → controls names f d ≡ count_by (λ x. name_number names x.0 == f) (fields d)
controls_is names f none = refl
controls_is names f (text s r) = controls_is names f r
controls_is names f (gap g r) = controls_is names f r
controls_is names f (element tag a i r) =
    let p : List ℕ × FieldKind → Bool = λ x. name_number names x.0 == f in
    let w : List ℕ × FieldKind → ℕ = λ y. cond (p y) 1 0 in
    omega (
      arith,
      sum_by-append w (field_of tag a) (fields i ++ fields r),
      sum_by-append w (fields i) (fields r),
      one_counted p (control_name tag a) (field_kind tag a),
      controls_is names f i,
      controls_is names f r,
    )

-- a name has the number of the field where it is the field's name
same_test : (names : List (List ℕ)) (name x : List ℕ) → name_number names name < length names → (name_number names x == name_number names name) ≡ same x name
same_test names name x l = elim (cases_Bool (same x name)) [
  | inl it ↦ eq-eqb (name_number names x) (name_number names name) (ap (name_number names) ((bytes_eq-Decides x name).0 it)) ∙ sym it
  | inr isnt ↦ elim (cases_Bool (name_number names x == name_number names name)) [
    | inl yes_it ↦ absurd
        (false≢true (sym isnt ∙ (bytes_eq-Decides x name).1 (same_number names x name l (eqb-true (name_number names x) (name_number names name) yes_it))))
    | inr no_it ↦ no_it ∙ sym isnt
  ]
]

never : (b : Bool) → (b ≡ true → ⊥) → b ≡ false
never true h = absurd (h refl)
never false h = refl

some_one : {X : Type 0} (p : X → Bool) (xs : List X) → list_any p xs ≡ true → 1 ≤ count_by p xs
some_one p [] h = absurd (false≢true h)
some_one p (x ∷ xs) h = elim (cases_Bool (p x)) [
  | inl it ↦ omega (arith, sum_by-cons (λ y. cond (p y) 1 0) x xs, ap {B = ℕ} (λ b. cond b 1 0) it)
  | inr isnt ↦ let k = some_one p xs (sym (ap (λ b. b || list_any p xs) isnt) ∙ h) in omega (arith, sum_by-cons (λ y. cond (p y) 1 0) x xs, k)
]

pub field_there : FieldIsThere
field_there templates G root service point r plain kinds is h d u =
    let names = names_of service in
    let name = r.field in
    let kind = kind_of_field service name in
    let low : name_number names name < length names = subst (λ k. k < length names) (sym is.0) is.1 in
    let lacks_not : Lacks templates G names r.id root (templates root) → ⊥ = λ k. h (fault_of 8 point name) (received.missing k) in
    let test : (λ (x : List ℕ × FieldKind). name_number names x.0 == r.id) ≡ (λ x. same x.0 name) =
    λ i x. (ap (λ k. name_number names x.0 == k) (sym is.0) ∙ same_test names name x.0 low) i in
    let closed = closed_fields d (plain_by plain (plain root) u) in
    let there_it : list_any (λ (x : List ℕ × FieldKind). same x.0 name) (fields d) ≡ true =
    ap (λ p. list_any p (fields d)) (sym test) ∙ sym (stands_is names r.id d) ∙ no_lack_there templates G names root r.id plain lacks_not d u in
    record {
      there = ap (list_any (λ x. same x.0 name)) closed ∙ there_it;
      once = λ e.
          let twice_not : Doubles templates G names r.id root → ⊥ = λ k. h (fault_of 9 point name) (received.repeated e k) in
          let most : controls names r.id d ≤ 1 = not_twice templates G names root r.id plain twice_not d u in
          let few = controls_is names r.id d ∙ ap (λ p. count_by p (fields d)) test in
          let some = some_one (λ (x : List ℕ × FieldKind). same x.0 name) (fields d) there_it in
          let c = ap (count_by (λ (x : List ℕ × FieldKind). same x.0 name)) closed in
          omega (arith, most, few, some, c);
      kinds = ap (list_all (is_of_kind name kind)) closed ∙ all_by (is_of_kind name kind) plain kinds (plain root) (kinds root) u;
      fits = never (is_misfit kind r.kind) (λ e. h (fault_of 10 point name) (received.unfit e));
    }
