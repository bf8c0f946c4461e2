-- Laws of validity.
use Rattle.std.proofs.Common.{◌≡◌, ℕ, Bool, true, false, ◌||◌, ◌&&◌, not, List, [], ◌∷◌, Option, Some, None, IfSome, refl, ap, sym, ◌∙◌}
use Rattle.std.specs.List.{list_all}
use Rattle.bw_lang.specs.declared.items.Attr.{Attr}
use Rattle.bw_lang.specs.declared.items.AttrValue.{AttrValue}
use Rattle.bw_lang.specs.declared.items.AttrValue.TheVariants.{Fixed, Hole}
use Rattle.bw_lang.specs.Document.Forest.{Forest, none, text, gap, element}
use Rattle.bw_lang.specs.Table.Names.{same}
use Rattle.bw_lang.specs.Document.Documents.{close, closed_attrs, keep_fixed}
use Rattle.bw_schema.specs.declared.rules.Rule.{Rule}
use Rattle.bw_schema.specs.Rules.{rule_of}
use Rattle.bw_schema.specs.Needs.{Needs, nothing, all_of, some_of, attr, one_value, content, order}
use Rattle.bw_schema.specs.Validity as v
use Rattle.bw_schema.specs.Laws.{ValidClosed}
use Rattle.std.proofs.Math.Bool.{and-false}

keep_each : (p : List ℕ → List ℕ → Bool) (a : Attr) (w : AttrValue) (rest : List Attr) → a.value ≡ w
    → v.each_fixed p (keep_fixed a w rest) ≡ (v.on_fixed p a.name a.value && v.each_fixed p rest)
keep_each p a (Fixed s) rest e = refl
keep_each p a (Hole g) rest e = ap (λ u. v.on_fixed p a.name u && v.each_fixed p rest) (sym e)

pub closed_each : (p : List ℕ → List ℕ → Bool) (a : List Attr) → v.each_fixed p (closed_attrs a) ≡ v.each_fixed p a
closed_each p [] = refl
closed_each p (a ∷ rest) = keep_each p a a.value (closed_attrs rest) refl ∙ ap (λ b. v.on_fixed p a.name a.value && b) (closed_each p rest)

keep_has : (a : Attr) (w : AttrValue) (rest : List Attr) (x : List ℕ) → a.value ≡ w
    → v.has_fixed (keep_fixed a w rest) x ≡ ((same a.name x && v.is_fixed a.value) || v.has_fixed rest x)
keep_has a (Fixed s) rest x e = refl
keep_has a (Hole g) rest x e = sym (ap (λ u. (same a.name x && v.is_fixed u) || v.has_fixed rest x) e
    ∙ ap (λ b. b || v.has_fixed rest x) (and-false (same a.name x)))

pub closed_has : (a : List Attr) (x : List ℕ) → v.has_fixed (closed_attrs a) x ≡ v.has_fixed a x
closed_has [] x = refl
closed_has (a ∷ rest) x = keep_has a a.value (closed_attrs rest) x refl ∙ ap (λ b. (same a.name x && v.is_fixed a.value) || b) (closed_has rest x)

pub all_has : (a : List Attr) (xs : List (List ℕ)) → list_all (v.has_fixed (closed_attrs a)) xs ≡ list_all (v.has_fixed a) xs
all_has a [] = refl
all_has a (x ∷ xs) = ap (λ b. b && list_all (v.has_fixed (closed_attrs a)) xs) (closed_has a x) ∙ ap (λ b. v.has_fixed a x && b) (all_has a xs)

pub closed_child : (p : List ℕ → Bool) (t : Forest) → v.each_child p (close t) ≡ v.each_child p t
closed_child p none = refl
closed_child p (text s r) = closed_child p r
closed_child p (gap g r) = closed_child p r
closed_child p (element tag a i r) = ap (λ b. p tag && b) (closed_child p r)

pub closed_text : (p : List ℕ → Bool) (t : Forest) → v.each_text p (close t) ≡ v.each_text p t
closed_text p none = refl
closed_text p (text s r) = ap (λ b. p s && b) (closed_text p r)
closed_text p (gap g r) = closed_text p r
closed_text p (element tag a i r) = closed_text p r

keep_value : (vs : List (List ℕ)) (a : Attr) (w : AttrValue) (rest : List Attr) (x : List ℕ) → a.value ≡ w
    → v.has_value (keep_fixed a w rest) x vs ≡ ((same a.name x && v.value_in vs a.value) || v.has_value rest x vs)
keep_value vs a (Fixed s) rest x e = refl
keep_value vs a (Hole g) rest x e = sym (ap (λ u. (same a.name x && v.value_in vs u) || v.has_value rest x vs) e
    ∙ ap (λ b. b || v.has_value rest x vs) (and-false (same a.name x)))

closed_value : (vs : List (List ℕ)) (a : List Attr) (x : List ℕ) → v.has_value (closed_attrs a) x vs ≡ v.has_value a x vs
closed_value vs [] x = refl
closed_value vs (a ∷ rest) x = keep_value vs a a.value (closed_attrs rest) x refl
    ∙ ap (λ b. (same a.name x && v.value_in vs a.value) || b) (closed_value vs rest x)

closed_order : (x y : List ℕ) (t : Forest) → v.ordered x y (close t) ≡ v.ordered x y t
closed_order x y none = refl
closed_order x y (text s r) = closed_order x y r
closed_order x y (gap g r) = closed_order x y r
closed_order x y (element tag a i r) =
    ap (λ b. (v.is_other y tag || b) && v.ordered x y (close r)) (closed_child (v.is_other x) r)
    ∙ ap (λ b. (v.is_other y tag || v.each_child (v.is_other x) r) && b) (closed_order x y r)

joined_two : (b : Bool) {p q r s : Bool} → p ≡ q → r ≡ s → v.joined b p r ≡ v.joined b q s
joined_two b {p = p} {q = q} {r = r} {s = s} e f = ap (λ k. v.joined b k r) e ∙ ap (λ k. v.joined b q k) f

-- closing an element changes none of its needs
pub closed_holds : (b : Bool) (needs : Needs) (a : List Attr) (i : Forest) → v.holds b needs (closed_attrs a) (close i) ≡ v.holds b needs a i
closed_holds b nothing a i = refl
closed_holds b (all_of parts rest) a i = joined_two b (closed_holds true parts a i) (closed_holds b rest a i)
closed_holds b (some_of parts rest) a i = joined_two b (closed_holds false parts a i) (closed_holds b rest a i)
closed_holds b (attr x rest) a i = joined_two b (closed_has a x) (closed_holds b rest a i)
closed_holds b (one_value x vs rest) a i = joined_two b (closed_value vs a x) (closed_holds b rest a i)
closed_holds b (content x rest) a i = joined_two b (ap not (closed_child (v.is_other x) i)) (closed_holds b rest a i)
closed_holds b (order x y rest) a i = joined_two b (closed_order x y i) (closed_holds b rest a i)

closed_bare : (t : Forest) → v.is_bare (close t) ≡ v.is_bare t
closed_bare none = refl
closed_bare (text s r) = refl
closed_bare (gap g r) = closed_bare r
closed_bare (element tag a i r) = refl

pub closed_root : (root : List ℕ) (t : Forest) → v.is_rooted root (close t) ≡ v.is_rooted root t
closed_root root none = refl
closed_root root (text s r) = refl
closed_root root (gap g r) = closed_root root r
closed_root root (element tag a i r) = ap (λ b. same tag root && b) (closed_bare r)

closed_follows : (o : Option Rule) (a : List Attr) (i : Forest) → IfSome o (λ r. v.Obeys r a i) → IfSome o (λ r. v.Obeys r (closed_attrs a) (close i))
closed_follows None a i h = tt
closed_follows (Some r) a i h = record {
  allowed = closed_each _ a ∙ h.allowed;
  required = all_has a r.must ∙ h.required;
  values = closed_each _ a ∙ h.values;
  children = closed_child _ i ∙ h.children;
  texts = ap (λ b. r.text || b) (closed_text _ i) ∙ h.texts;
  needs = closed_holds true r.needs a i ∙ h.needs;
}

closed_every : (rules : List Rule) (t : Forest) → v.EveryElement (v.Follows rules) t → v.EveryElement (v.Follows rules) (close t)
closed_every rules none h = tt
closed_every rules (text s r) h = closed_every rules r h
closed_every rules (gap g r) h = closed_every rules r h
closed_every rules (element tag a i r) h = (closed_follows (rule_of rules tag) a i h.0, (closed_every rules i h.1.0, closed_every rules r h.1.1))

pub valid_closed : ValidClosed
valid_closed s t h = record { root = closed_root s.root t ∙ h.root; each = closed_every s.elements t h.each }
