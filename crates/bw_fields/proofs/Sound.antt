-- Where a page may not lack a field, each unfolding has it.
use Rattle.std.proofs.Common.{◌≡◌, inl, inr, ℕ, Bool, true, false, ◌||◌, not, List, Option, Some, None, refl, ap, sym, ◌∙◌}
use Rattle.std.specs.Prelude.{codes, if◌then◌else◌}
use Rattle.std.proofs.lemmas.Bool.{false≢true, cases_Bool, and_parts, or_parts}
use Rattle.bw_lang.specs.declared.items.Attr.{Attr}
use Rattle.bw_lang.specs.declared.items.AttrValue.{AttrValue}
use Rattle.bw_lang.specs.declared.controls.FieldKind.{FieldKind}
use Rattle.bw_lang.specs.declared.controls.FieldKind.TheVariants.{Single}
use Rattle.bw_lang.specs.Document.Forest.{Forest}
use Rattle.std.specs.List.{list_any}
use Rattle.std.specs.Prelude.{◌==◌}
use Rattle.bw_lang.specs.Table.Names.{same, name_number}
use Rattle.bw_lang.specs.Template.Controls.{fixed, fixed_value, is_control, unless_empty, input_kind, select_kind, if_named, named_kind, field_of}
use Rattle.bw_sum.specs.Graph.{Graph}
use Rattle.bw_shape.specs.Tests.{stands}
use Rattle.bw_shape.specs.Shape as shape
use Rattle.bw_shape.specs.Shape.{Lacks}
use Rattle.bw_sum.specs.Unfolding.{FillsValue, kept, left_open, said_in, FillsAttrs, no_more, more, Fills, end, words, inside, left, said, led}
use Rattle.bw_shape.proofs.Outcomes.{sure}
use Rattle.bw_shape.proofs.Walks.{stands-append}
use Rattle.bw_fields.specs.Plain.{is_fixed, is_given, is_plain, ArePlain}
use Rattle.bw_fields.specs.Laws.{NoLackIsThere}

pub implied : (c g : Bool) → (not c || g) ≡ true → c ≡ true → g ≡ true
implied true g h k = h
implied false g h k = absurd (false≢true k)

-- a fixed attribute of that name, or another attribute, gives what it gave in the template
picked : {G : Graph} {n : ℕ} {u v : AttrValue} (b : Bool) (p q : Option (List ℕ)) → p ≡ q → FillsValue G n u v → (not b || is_fixed u) ≡ true
    → (if b then fixed_value v else p) ≡ (if b then fixed_value u else q)
picked true p q e kept h = refl
picked true p q e (left_open k) h = absurd (false≢true h)
picked true p q e (said_in k) h = absurd (false≢true h)
picked false p q e k h = e

given_value : {G : Graph} {n : ℕ} {a b : List Attr} (x : List ℕ) → FillsAttrs G n a b → is_given x a ≡ true → fixed x b ≡ fixed x a
given_value x no_more h = refl
given_value x (more {x = y} {a = a} {b = b} q r) h =
    let k = and_parts _ _ h in picked (same y x) (fixed x b) (fixed x a) (given_value x r k.1) q k.0

-- the field of an element by the values of its three attributes
abbrev pub by_values : Bool → List ℕ → Option (List ℕ) → Option (List ℕ) → Option (List ℕ) → List (List ℕ × FieldKind)
by_values c tag n t m =
    let name = if c then unless_empty n else None in
    named_kind name (if_named name (if same tag (codes "input") then input_kind t else if same tag (codes "select") then Some (select_kind m) else Some Single))

-- an element of a template stays a control of its field
pub same_field : {G : Graph} {n : ℕ} {a b : List Attr} (tag : List ℕ) → FillsAttrs G n a b → is_plain tag a ≡ true → field_of tag b ≡ field_of tag a
same_field {a = a} {b = b} tag q h = elim (cases_Bool (is_control tag)) [
  | inl it ↦
      let k = and_parts _ _ (implied (is_control tag) _ h it) in
      let l = and_parts _ _ k.1 in
      ap (λ n. by_values (is_control tag) tag n (fixed (codes "type") b) (fixed (codes "multiple") b)) (given_value (codes "name") q k.0)
      ∙ ap (λ t. by_values (is_control tag) tag (fixed (codes "name") a) t (fixed (codes "multiple") b)) (given_value (codes "type") q l.0)
      ∙ ap (λ m. by_values (is_control tag) tag (fixed (codes "name") a) (fixed (codes "type") a) m) (given_value (codes "multiple") q l.1)
  | inr isnt ↦
      ap (λ c. by_values c tag (fixed (codes "name") b) (fixed (codes "type") b) (fixed (codes "multiple") b)) isnt
      ∙ sym (ap (λ c. by_values c tag (fixed (codes "name") a) (fixed (codes "type") a) (fixed (codes "multiple") a)) isnt)
]

module _ (templates : ℕ → Forest) (G : Graph) (names : List (List ℕ)) (f : ℕ) (plain : (n : ℕ) → ArePlain (templates n)) where
  -- where an unfolding has no control of the field, its template may lack it
  lacks_by : {n : ℕ} {t d : Forest} → ArePlain t → Fills templates G n t d → stands names f d ≡ false → Lacks templates G names f n t
  lacks_by p end h = shape.end
  lacks_by p (words r) h = shape.words (lacks_by p r h)
  lacks_by p (inside {tag = tag} q i r) h =
      let k = or_parts _ _ h in
      let l = or_parts _ _ k.1 in
      shape.inside (sym (ap (λ xs. list_any (λ x. name_number names x.0 == f) xs) (same_field tag q p.0)) ∙ k.0) (lacks_by p.1.0 i l.0) (lacks_by p.1.1 r l.1)
  lacks_by p (left l r) h = shape.left l (lacks_by p r h)
  lacks_by p (said l r) h = shape.said l (lacks_by p r h)
  lacks_by p (led {m = m} {d = d} {e = e} l i r) h =
      let k = or_parts _ _ (sym (stands-append names f e d) ∙ h) in
      shape.led l (lacks_by (plain m) i k.0) (lacks_by p r k.1)

pub no_lack_there : NoLackIsThere
no_lack_there templates G names root f plain h d u = sure (stands names f d) (λ k. h (lacks_by templates G names f plain (plain root) u k))
