-- What is known of a name covers what it stands for.
use Rattle.std.proofs.Common.{◌≡◌, ℕ, suc, ◌+◌, Bool, true, false, cond, List, [], ◌∷◌, ◌++◌, Option, Some, None, refl}
use Rattle.std.proofs.Common.{sym, ap, ◌∙◌, subst, arith}
use Rattle.std.specs.Prelude.{◌||◌, not, pos, if◌then◌else◌, option_map, find, map, is_some, length, slice_get, unwrap_or}
use Rattle.std.specs.Option.{option_or}
use Rattle.std.proofs.lemmas.Bool.{false≢true}
use Rattle.bw_lang.specs.declared.service.Service.{Service}
use Rattle.bw_lang.specs.declared.service.Template.{Template}
use Rattle.bw_lang.specs.Document.Forest.{Forest, none}
use Rattle.bw_lang.specs.Table.Names.{same, beside}
use Rattle.bw_meaning.specs.Expressions.{named}
use Rattle.bw_meaning.specs.Values.{Value, Values, number, document, constant as document_at, template_value}
use Rattle.bw_sum.specs.Graph.{constant}
use Rattle.bw_sum.specs.Unfolding.{Covers}
use Rattle.bw_sum.proofs.Covering.{covers_constant}
use Rattle.bw_sum.specs.Templates.{template_items}
use Rattle.bw_cover.specs.Abstracts.{Abstract, Nothing, Html, is_gap, covers}
use Rattle.bw_cover.specs.Facts.{Facts, is_shared, template_known, look}
use Rattle.bw_types.specs.Scopes.{is_among, template_names}
use Rattle.bw_cover.specs.Covered.{CoversLocals, CoversShared}
use Rattle.bw_lang.specs.Document.Wrappers.{show_wrapper, exit_wrapper}
use Rattle.bw_lang.specs.Table.Names as names

-- what is covered is covered by all that is known less
-- the template of a name, and its number
template_at : (w : List ℕ) (ts : List Template) (others : List Forest) → is_among w (map (λ t. t.name) ts) ≡ true
    → (t : Template) × (find (λ t. same w t.name) ts ≡ Some t)
    × (unwrap_or (slice_get (map (λ t. t.items) ts ++ others) (names.name_number (map (λ t. t.name) ts) w)) none ≡ t.items)
template_at w [] others h = absurd (false≢true h)
template_at w (t ∷ ts) others h = by_test (same w t.name) h (template_at w ts others)
  where
    Found : Bool → Type 0
    Found b = (u : Template) × (cond b (Some t) (find (λ u. same w u.name) ts) ≡ Some u)
        × (unwrap_or (slice_get (t.items ∷ (map (λ u. u.items) ts ++ others)) (cond (not b) (1 + names.name_number (map (λ u. u.name) ts) w) 0)) none ≡ u.items)

    one_more : (n : ℕ) (x : Forest) (xs : List Forest) → slice_get (x ∷ xs) (1 + n) ≡ slice_get xs n
    one_more n x xs = let e : 1 + n ≡ suc n = omega arith in ap (slice_get (x ∷ xs)) e

    by_test : (b : Bool) → (b || is_among w (map (λ u. u.name) ts)) ≡ true
        → (is_among w (map (λ u. u.name) ts) ≡ true → (u : Template) × (find (λ u. same w u.name) ts ≡ Some u)
        × (unwrap_or (slice_get (map (λ u. u.items) ts ++ others) (names.name_number (map (λ u. u.name) ts) w)) none ≡ u.items))
        → Found b
    by_test true e ih = (t, refl, refl)
    by_test false e ih =
        let r = ih e in
        (r.0, r.1, ap (λ o. unwrap_or o none) (one_more (names.name_number (map (λ u. u.name) ts) w) t.items (map (λ u. u.items) ts ++ others)) ∙ r.2)

no_template : (w : List ℕ) (ts : List Template) → is_among w (map (λ t. t.name) ts) ≡ false → find (λ t. same w t.name) ts ≡ None
no_template w [] h = refl
no_template w (t ∷ ts) h = by_test (same w t.name) h (no_template w ts)
  where
    by_test : (b : Bool) → (b || is_among w (map (λ u. u.name) ts)) ≡ false
        → (is_among w (map (λ u. u.name) ts) ≡ false → find (λ u. same w u.name) ts ≡ None) → cond b (Some t) (find (λ u. same w u.name) ts) ≡ None
    by_test true e ih = absurd (false≢true (sym e))
    by_test false e ih = ih e

-- a template is covered by what is known of its name, whatever stands for a name that isn't one
pub template_given : (service : Service) (w : List ℕ) (other : Value) → covers service (template_known service w) (unwrap_or (template_value service w) other)
template_given service w other = by_test (is_among w (template_names service)) refl
  where
    by_test : (b : Bool) → is_among w (template_names service) ≡ b
        → covers service (if b then Html (constant (template_items service) (is_gap service) (names.name_number (template_names service) w)) else Nothing)
        (unwrap_or (template_value service w) other)
    by_test true e =
        let r = template_at w service.templates (show_wrapper (length service.gaps) ∷ exit_wrapper (length service.gaps) ∷ []) e in
        subst (λ o. covers service (Html (constant (template_items service) (is_gap service) (names.name_number (template_names service) w)))
        (unwrap_or (option_map (λ (t : Template). document (document_at t.items)) o) other)) (sym r.1)
        (subst (λ d. Covers (template_items service) (is_gap service)
        (constant (template_items service) (is_gap service) (names.name_number (template_names service) w)) d) r.2
        (covers_constant (template_items service) (is_gap service) (names.name_number (template_names service) w)))
    by_test false e = tt

-- each name's value is covered by what is known of it
module _ {K : Type 0} (service : Service) (f : Facts K) (p : K) (l s : Values) (cl : CoversLocals service f p l) (cs : CoversShared service f s) where
  abbrev rest_known : List ℕ → Abstract
  rest_known w = if is_shared service w then f.shared w else template_known service w

  shared_value : (w : List ℕ) (o : Option Value) → beside w s ≡ o
      → covers service (rest_known w) (unwrap_or (option_or o (template_value service w)) (number (pos 0)))
  shared_value w None e =
      subst (λ b. covers service (if b then f.shared w else template_known service w) (unwrap_or (template_value service w) (number (pos 0))))
      (sym (ap is_some e) ∙ cs.names w) (template_given service w (number (pos 0)))
  shared_value w (Some v) e = subst (λ b. covers service (if b then f.shared w else template_known service w) v) (sym (ap is_some e) ∙ cs.names w)
      (cs.each w v e)

  local_value : (w : List ℕ) (o : Option Value) → beside w l ≡ o
      → covers service (look service f p w) (unwrap_or (option_or o (option_or (beside w s) (template_value service w))) (number (pos 0)))
  local_value w None e =
      subst (λ b. covers service (if b then f.local p w else rest_known w) (unwrap_or (option_or (beside w s) (template_value service w)) (number (pos 0))))
      (sym (ap is_some e) ∙ cl.names w) (shared_value w (beside w s) refl)
  local_value w (Some v) e = subst (λ b. covers service (if b then f.local p w else rest_known w) v) (sym (ap is_some e) ∙ cl.names w) (cl.each w v e)

  pub looks : (w : List ℕ) → covers service (look service f p w) (named service l s w)
  looks w = local_value w (beside w l) refl
