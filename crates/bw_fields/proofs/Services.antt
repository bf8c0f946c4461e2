-- What the templates of a service that is typed, and the wrappers of its pages, are.
use Rattle.std.proofs.Common.{◌≡◌, ℕ, zero, suc, Bool, true, false, ◌||◌, ◌&&◌, not, cond, List, [], ◌∷◌, ◌++◌, length, map, get_or, Some, inl, inr, refl, ap}
use Rattle.std.proofs.Common.{sym, ◌∙◌, subst, arith}
use Rattle.std.specs.Prelude.{codes, flat_map, find}
use Rattle.std.specs.List.{All, AllPairs, Contains, list_all, list_any}
use Rattle.std.specs.Option.{option_map}
use Rattle.std.proofs.lemmas.Bool.{false≢true, cases_Bool, or_left, or_right, and_parts, and_from, or_parts}
use Rattle.std.proofs.lemmas.List.{get_or_past}
use Rattle.std.proofs.lemmas.List.Folds.{list_all-append}
use Rattle.std.proofs.lemmas.Option.{unwrap_or-slice_get}
use Rattle.std.proofs.lemmas.Slice.Eq.{bytes_eq-Decides}
use Rattle.bw_lang.specs.declared.controls.FieldKind.{FieldKind}
use Rattle.bw_lang.specs.declared.controls.FieldKind.TheVariants.{Single, Choice, Many}
use Rattle.bw_lang.specs.declared.items.Attr.{Attr}
use Rattle.bw_lang.specs.declared.items.AttrValue.{AttrValue}
use Rattle.bw_lang.specs.declared.items.AttrValue.TheVariants.{Fixed, Hole}
use Rattle.bw_lang.specs.declared.service.Service.{Service}
use Rattle.bw_lang.specs.declared.service.Template.{Template}
use Rattle.bw_lang.specs.Template.Controls.{is_control, fields}
use Rattle.bw_lang.specs.Document.Documents.{is_open}
use Rattle.bw_lang.specs.Document.Forest.{Forest, none, text, gap, element}
use Rattle.bw_lang.specs.Table.Names.{same, beside}
use Rattle.bw_lang.specs.Document.Wrappers.{show_wrapper, exit_wrapper}
use Rattle.bw_sum.specs.Templates.{all_items, template_items}
use Rattle.bw_types.specs.Fields.{template_fields, kind_of_field}
use Rattle.bw_types.specs.Scopes.{is_among}
use Rattle.bw_types.specs.TemplateFaults.{is_bad_attr, has_other_type, is_bad_control}
use Rattle.bw_types.specs.Typing.{EachElement, IsTypedService}
use Rattle.bw_fields.specs.Plain.{is_fixed, is_given, is_plain, ArePlain}
use Rattle.bw_fields.specs.Received.{is_kind, is_of_kind}

-- ---- what makes a control is no gap

abbrev three : List (List ℕ)
three = codes "name" ∷ codes "type" ∷ codes "multiple" ∷ []

fixed_by : (v : AttrValue) (q : Bool) → q ≡ true → (is_open v && q) ≡ false → is_fixed v ≡ true
fixed_by (Fixed s) q e h = refl
fixed_by (Hole g) q e h = absurd (false≢true (sym h ∙ e))

given : (x : List ℕ) → is_among x three ≡ true → (attrs : List Attr) → list_any is_bad_attr attrs ≡ false → is_given x attrs ≡ true
given x m [] h = refl
given x m (a ∷ attrs) h =
    let p = or_parts (is_bad_attr a) (list_any is_bad_attr attrs) h in
    let q = or_parts (is_open a.value && is_among a.name three) (same a.name (codes "disabled")) p.0 in
    and_from (not (same a.name x) || is_fixed a.value) (is_given x attrs) (elim (cases_Bool (same a.name x)) [
      | inl it ↦
          let e = (bytes_eq-Decides a.name x).0 it in
          or_right (not (same a.name x)) (is_fixed a.value)
          (fixed_by a.value (is_among a.name three) (subst (λ y. is_among y three ≡ true) (sym e) m) q.0)
      | inr isnt ↦ or_left (not (same a.name x)) (is_fixed a.value) (ap not isnt)
    ]) (given x m attrs p.1)

plain_element : (tag : List ℕ) (attrs : List Attr) → is_bad_control tag attrs ≡ false → is_plain tag attrs ≡ true
plain_element tag attrs h = elim (cases_Bool (is_control tag)) [
  | inl it ↦
      let b = (or_parts (list_any is_bad_attr attrs) (has_other_type tag attrs)
      (sym (ap (λ c. c && (list_any is_bad_attr attrs || has_other_type tag attrs)) it) ∙ h)).0 in
      or_right (not (is_control tag)) _
      (and_from (is_given (codes "name") attrs) _ (given (codes "name") refl attrs b)
      (and_from (is_given (codes "type") attrs) (is_given (codes "multiple") attrs) (given (codes "type") refl attrs b)
      (given (codes "multiple") refl attrs b)))
  | inr isnt ↦ or_left (not (is_control tag)) _ (ap not isnt)
]

plain_of : (t : Forest) → EachElement (λ tag attrs. is_bad_control tag attrs ≡ false) t → ArePlain t
plain_of none h = tt
plain_of (text s r) h = plain_of r h
plain_of (gap g r) h = plain_of r h
plain_of (element tag a i r) h = (plain_element tag a h.0, (plain_of i h.1, plain_of r h.2))

plain_show : (g : ℕ) → ArePlain (show_wrapper g)
plain_show g = (refl, ((refl, ((refl, (tt, tt)), (refl, ((refl, ((refl, ((refl, (tt, tt)), tt)), tt)), tt)))), tt))

plain_exit : (g : ℕ) → ArePlain (exit_wrapper g)
plain_exit g = (refl, ((refl, ((refl, (tt, tt)), (refl, (tt, tt)))), tt))

plain_at : (ts : List Template) (a b : Forest) → All (λ t. EachElement (λ tag attrs. is_bad_control tag attrs ≡ false) t.items) ts → ArePlain a → ArePlain b
    → (n : ℕ) → ArePlain (get_or (map (λ t. t.items) ts ++ a ∷ b ∷ []) n none)
plain_at [] a b m p q zero = p
plain_at [] a b m p q (suc zero) = q
plain_at [] a b m p q (suc (suc n)) = subst ArePlain (sym (get_or_past (a ∷ b ∷ []) (suc (suc n)) none (omega arith))) tt
plain_at (t ∷ ts) a b m p q zero = plain_of t.items (m 0 t (omega arith))
plain_at (t ∷ ts) a b m p q (suc n) = plain_at ts a b (λ k d l. m (suc k) d (omega (arith, l))) p q n

pub templates_plain : (service : Service) → IsTypedService service → (n : ℕ) → ArePlain (template_items service n)
templates_plain service typed n =
    let g = length service.gaps in
    subst ArePlain (sym (unwrap_or-slice_get (all_items service) n none))
    (plain_at service.templates (show_wrapper g) (exit_wrapper g) typed.controls (plain_show g) (plain_exit g) n)

-- ---- a field has one kind

kind_itself : (k : FieldKind) → is_kind (Some k) k ≡ true
kind_itself Single = refl
kind_itself Choice = refl
kind_itself Many = refl

all_each : {X : Type 0} (p : X → Bool) (xs : List X) → ((x : X) → Contains xs x → p x ≡ true) → list_all p xs ≡ true
all_each p [] h = refl
all_each p (x ∷ xs) h =
    and_from (p x) (list_all p xs) (h x (0, omega arith, refl)) (all_each p xs (λ y c. h y (suc c.0, (let l = c.1 in omega (arith, l)), c.2)))

abbrev Agree : List ℕ × FieldKind → List ℕ × FieldKind → Type 0
Agree x y = x.0 ≡ y.0 → x.1 ≡ y.1

one_kind : (w : List ℕ) (xs : List (List ℕ × FieldKind)) → AllPairs Agree xs → list_all (is_of_kind w (beside w xs)) xs ≡ true
one_kind w [] h = refl
one_kind w (x ∷ xs) h = by_test (same w x.0) refl (one_kind w xs (λ i j d l m. h (suc i) (suc j) d (omega (arith, l)) (omega (arith, m))))
  where
    by_test : (b : Bool) → same w x.0 ≡ b → list_all (is_of_kind w (beside w xs)) xs ≡ true
        → list_all (is_of_kind w (option_map (λ (y : List ℕ × FieldKind). y.1) (cond b (Some x) (find (λ y. same w y.0) xs)))) (x ∷ xs) ≡ true
    by_test true e ih =
        let wx : w ≡ x.0 = (bytes_eq-Decides w x.0).0 e in
        and_from (is_of_kind w (Some x.1) x) _ (or_right (not (same x.0 w)) _ (kind_itself x.1))
        (all_each (is_of_kind w (Some x.1)) xs (λ z c. elim (cases_Bool (same z.0 w)) [
          | inl it ↦
              let zw : z.0 ≡ w = (bytes_eq-Decides z.0 w).0 it in
              let l = c.1 in
              let k : x.1 ≡ z.1 = subst (Agree x) c.2 (h 0 (suc c.0) z (omega arith) (omega (arith, l))) (sym wx ∙ sym zw) in
              or_right (not (same z.0 w)) (is_kind (Some x.1) z.1) (subst (λ j. is_kind (Some x.1) j ≡ true) k (kind_itself x.1))
          | inr isnt ↦ or_left (not (same z.0 w)) _ (ap not isnt)
        ]))
    by_test false e ih =
        let differs : same x.0 w ≡ false = elim (cases_Bool (same x.0 w)) [
          | inl it ↦ absurd (false≢true (sym e ∙ (bytes_eq-Decides w x.0).1 (sym ((bytes_eq-Decides x.0 w).0 it))))
          | inr isnt ↦ isnt
        ] in
        and_from (is_of_kind w (beside w xs) x) _ (or_left (not (same x.0 w)) _ (ap not differs)) ih

kinds_at : (p : List ℕ × FieldKind → Bool) (ts : List Template) (g : ℕ) → list_all p (flat_map (λ t. fields t.items) ts) ≡ true → (n : ℕ)
    → list_all p (fields (get_or (map (λ t. t.items) ts ++ show_wrapper g ∷ exit_wrapper g ∷ []) n none)) ≡ true
kinds_at p [] g h zero = refl
kinds_at p [] g h (suc zero) = refl
kinds_at p [] g h (suc (suc n)) =
    subst (λ t. list_all p (fields t) ≡ true) (sym (get_or_past (show_wrapper g ∷ exit_wrapper g ∷ []) (suc (suc n)) none (omega arith))) refl
kinds_at p (t ∷ ts) g h zero =
    (and_parts (list_all p (fields t.items)) _ (sym (list_all-append p (fields t.items) (flat_map (λ t. fields t.items) ts)) ∙ h)).0
kinds_at p (t ∷ ts) g h (suc n) =
    kinds_at p ts g (and_parts (list_all p (fields t.items)) _ (sym (list_all-append p (fields t.items) (flat_map (λ t. fields t.items) ts)) ∙ h)).1 n

pub templates_agree : (service : Service) → IsTypedService service → (w : List ℕ) (n : ℕ)
    → list_all (is_of_kind w (kind_of_field service w)) (fields (template_items service n)) ≡ true
templates_agree service typed w n =
    let p = is_of_kind w (kind_of_field service w) in
    subst (λ t. list_all p (fields t) ≡ true) (sym (unwrap_or-slice_get (all_items service) n none))
    (kinds_at p service.templates (length service.gaps) (one_kind w (template_fields service.templates) typed.fields) n)
