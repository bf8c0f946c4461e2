-- A gap that takes documents stands in no attribute.
use Rattle.std.proofs.Common.{◌≡◌, ◌<◌, ◌+◌, ℕ, zero, suc, Bool, true, false, cond, List, [], ◌∷◌, ◌++◌, length, map, Some, refl, sym, ap, ◌∙◌, arith}
use Rattle.std.specs.Prelude.{◌||◌, ◌==◌, find, option_map, slice_get, unwrap_or}
use Rattle.std.specs.List.{list_any, AllPairs}
use Rattle.std.proofs.lemmas.Bool.{false≢true, eqb-true, eq-eqb, false_from_ne_true, or_parts}
use Rattle.std.proofs.lemmas.List.Folds.{list_any-append, list_any_none}
use Rattle.bw_lang.specs.declared.items.Attr.{Attr}
use Rattle.bw_lang.specs.declared.items.AttrValue.{AttrValue}
use Rattle.bw_lang.specs.declared.items.AttrValue.TheVariants.{Fixed, Hole}
use Rattle.bw_lang.specs.declared.service.Service.{Service}
use Rattle.bw_lang.specs.declared.service.Template.{Template}
use Rattle.bw_lang.specs.Document.Documents.{is_hole}
use Rattle.bw_lang.specs.Document.Forest.{Forest, none, text, gap, element}
use Rattle.bw_lang.specs.Document.Wrappers.{show_wrapper, exit_wrapper}
use Rattle.bw_sum.specs.Opening.{holes, has_hole}
use Rattle.bw_sum.specs.Templates.{template_items}
use Rattle.bw_types.specs.declared.fault.GapKind.{GapKind}
use Rattle.bw_types.specs.declared.fault.GapKind.TheVariants.{Content, Attribute}
use Rattle.bw_types.specs.Gaps.{value_use, attr_uses, gap_uses, template_uses, gap_kind, kind_of_number}

abbrev is_attribute : ℕ → ℕ × GapKind → Bool
is_attribute g (h, Content) = false
is_attribute g (h, Attribute) = h == g

abbrev attribute_in : ℕ → List (ℕ × GapKind) → Bool
attribute_in g uses = list_any (is_attribute g) uses

-- ---- the uses of a gap in attributes are its holes

value_holes : (g : ℕ) (v : AttrValue) (rest : List (ℕ × GapKind)) → attribute_in g (value_use v ++ rest) ≡ (is_hole g v || attribute_in g rest)
value_holes g (Fixed s) rest = refl
value_holes g (Hole h) rest = refl

attr_holes : (g : ℕ) (attrs : List Attr) → attribute_in g (attr_uses attrs) ≡ holes g attrs
attr_holes g [] = refl
attr_holes g (a ∷ attrs) = value_holes g a.value (attr_uses attrs) ∙ ap (λ b. is_hole g a.value || b) (attr_holes g attrs)

tree_holes : (g : ℕ) (d : Forest) → attribute_in g (gap_uses d) ≡ has_hole g d
tree_holes g none = refl
tree_holes g (text s d) = tree_holes g d
tree_holes g (gap h d) = tree_holes g d
tree_holes g (element tag attrs i d) =
    list_any-append (is_attribute g) (attr_uses attrs) (gap_uses i ++ gap_uses d)
    ∙ ap (λ b. b || attribute_in g (gap_uses i ++ gap_uses d)) (attr_holes g attrs)
    ∙ ap (λ b. holes g attrs || b) (list_any-append (is_attribute g) (gap_uses i) (gap_uses d) ∙ ap (λ b. b || attribute_in g (gap_uses d)) (tree_holes g i)
    ∙ ap (λ b. has_hole g i || b) (tree_holes g d))

-- a gap that no template has for an attribute, and none of the wrappers
no_hole : (gaps g : ℕ) (ts : List Template) (n : ℕ) → g < gaps → attribute_in g (template_uses ts) ≡ false
    → has_hole g (unwrap_or (slice_get (map (λ (t : Template). t.items) ts ++ show_wrapper gaps ∷ exit_wrapper gaps ∷ []) n) none) ≡ false
no_hole gaps g [] zero lt h =
    let apart : (gaps + 1 == g) ≡ false = false_from_ne_true (gaps + 1 == g) (λ e. let i = eqb-true (gaps + 1) g e in absurd (omega arith)) in
    ap (λ b. (((b || false) || false) || false) || false) apart
no_hole gaps g [] (suc zero) lt h = refl
no_hole gaps g [] (suc (suc n)) lt h = refl
no_hole gaps g (t ∷ ts) zero lt h =
    sym (tree_holes g t.items)
    ∙ (or_parts (attribute_in g (gap_uses t.items)) (attribute_in g (template_uses ts))
    (sym (list_any-append (is_attribute g) (gap_uses t.items) (template_uses ts)) ∙ h)).0
no_hole gaps g (t ∷ ts) (suc n) lt h =
    no_hole gaps g ts n lt
    (or_parts (attribute_in g (gap_uses t.items)) (attribute_in g (template_uses ts))
    (sym (list_any-append (is_attribute g) (gap_uses t.items) (template_uses ts)) ∙ h)).1

-- ---- a gap has one kind

attribute_is : (g : ℕ) (x : ℕ × GapKind) → is_attribute g x ≡ true → (x.0 ≡ g) × (x.1 ≡ Attribute)
attribute_is g (h, Content) e = absurd (false≢true e)
attribute_is g (h, Attribute) e = (eqb-true h g e, refl)

content_is_none : Content ≡ Attribute → ⊥
content_is_none e = cc

-- so one whose first place is for content has no place in an attribute
all_content : (uses : List (ℕ × GapKind)) (g : ℕ) → AllPairs (λ x y. x.0 ≡ y.0 → x.1 ≡ y.1) uses → gap_kind uses g ≡ Some Content
    → attribute_in g uses ≡ false
all_content [] g h e = refl
all_content (x ∷ xs) g h e = by_test (x.0 == g) refl e (all_content xs g (λ i j d lt l. h (suc i) (suc j) d (omega arith) (omega arith)))
  where
    by_test : (b : Bool) → (x.0 == g) ≡ b → option_map (λ (y : ℕ × GapKind). y.1) (cond b (Some x) (find (λ y. y.0 == g) xs)) ≡ Some Content
        → (gap_kind xs g ≡ Some Content → attribute_in g xs ≡ false)
        → (is_attribute g x || attribute_in g xs) ≡ false
    by_test true t k ih =
        let c : x.1 ≡ Content = cc in
        ap (λ b. b || attribute_in g xs) (false_from_ne_true (is_attribute g x) (λ q. content_is_none (sym c ∙ (attribute_is g x q).1)))
        ∙ list_any_none (is_attribute g) xs (λ i d lt. false_from_ne_true (is_attribute g _) (λ q.
        let r = attribute_is g _ q in
        content_is_none (sym c ∙ h 0 (suc i) d (omega arith) (omega arith) (eqb-true x.0 g t ∙ sym r.0) ∙ r.1)))
    by_test false t k ih = ap (λ b. b || attribute_in g xs) (false_from_ne_true (is_attribute g x) (λ q. false≢true (sym t ∙ eq_test x.0 g (attribute_is g x q).0)))
        ∙ ih k
      where
        eq_test : (m n : ℕ) → m ≡ n → (m == n) ≡ true
        eq_test m n i = eq-eqb m n i

pub content_has_no_hole : (service : Service) → AllPairs (λ x y. x.0 ≡ y.0 → x.1 ≡ y.1) (template_uses service.templates) → (g : ℕ)
    → g < length service.gaps → kind_of_number service g ≡ Some Content → (n : ℕ) → has_hole g (template_items service n) ≡ false
content_has_no_hole service one g lt kind n =
    no_hole (length service.gaps) g service.templates n lt (all_content (template_uses service.templates) g one kind)
