-- What a name stands for.
use Rattle.std.proofs.Common.{◌≡◌, ℕ, zero, suc, ◌<◌, Bool, true, List, [], ◌∷◌, length, Option, Some, None, slice_get, refl, ap, sym, ◌∙◌}
use Rattle.std.proofs.Common.{subst, arith}
use Rattle.std.specs.Prelude.{find, position, nat_lt, pos, is_some, unwrap_or}
use Rattle.std.specs.List.{position_or_len}
use Rattle.std.specs.Option.{option_map, option_or}
use Rattle.std.proofs.lemmas.List.Folds.{find_at}
use Rattle.std.proofs.lemmas.Option.{slice_get_past}
use Rattle.bw_lang.specs.declared.service.Service.{Service}
use Rattle.bw_lang.specs.declared.service.Template.{Template}
use Rattle.bw_lang.specs.Table.Names.{same, beside}
use Rattle.bw_doc.specs.Made as made
use Rattle.bw_doc.specs.Made.{Made}
use Rattle.bw_doc.specs.Operations.{items_in, items_at}
use Rattle.bw_meaning.specs.Expressions as spec
use Rattle.bw_meaning.specs.Values as meaning
use Rattle.bw_meaning.specs.Values.{template_value}
use Rattle.bw_eval.specs.declared.value.Value.{Value}
use Rattle.bw_eval.specs.View.{document, value, values}
use Rattle.bw_eval.proofs.Lookups.{beside_values}
use Rattle.bw_eval.proofs.Puts.{some_place, no_place}

-- the first that passes stands at the place of the first that passes
pub found_at : {X : Type 0} (p : X → Bool) (xs : List X) (n : ℕ) → position p xs ≡ Some n → (n < length xs) × (find p xs ≡ slice_get xs n)
found_at p xs n e =
    let h = some_place (position_or_len p xs) (length xs) n (nat_lt (position_or_len p xs) (length xs)) refl e in
    (subst (λ k. k < length xs) h.0 h.1, find_at p xs ∙ ap (slice_get xs) h.0)

-- where none passes, none is found
pub found_none : {X : Type 0} (p : X → Bool) (xs : List X) → position p xs ≡ None → find p xs ≡ None
found_none p xs e = find_at p xs
    ∙ slice_get_past xs (position_or_len p xs) (no_place (position_or_len p xs) (length xs) (nat_lt (position_or_len p xs) (length xs)) refl e)

-- there is an item at each place within a list
pub get_within : {X : Type 0} (xs : List X) (n : ℕ) → n < length xs → is_some (slice_get xs n) ≡ true
get_within [] n lt = absurd (omega arith)
get_within (x ∷ xs) zero lt = refl
get_within (x ∷ xs) (suc n) lt = get_within xs n (omega arith)

constant_there : (n : ℕ) (o : Option Template) (d : meaning.Value) → is_some o ≡ true →
    meaning.document (document (made.constant n (items_in o))) ≡ unwrap_or (option_map (λ (t : Template). meaning.document (meaning.constant t.items)) o) d
constant_there n None d e = cc
constant_there n (Some t) d e = refl

-- the constant of the template at the place of the name is the name's document
pub template_is : (service : Service) (w : List ℕ) (n : ℕ) (d : Made) (v : meaning.Value) →
    position (λ (t : Template). same w t.name) service.templates ≡ Some n → d ≡ made.constant n (items_at service.templates n) →
    meaning.document (document d) ≡ unwrap_or (template_value service w) v
template_is service w n d v e ed =
    let h = found_at (λ (t : Template). same w t.name) service.templates n e in
    ap (λ x. meaning.document (document x)) ed ∙ constant_there n (slice_get service.templates n) v (get_within service.templates n h.0)
    ∙ ap (λ o. unwrap_or (option_map (λ (t : Template). meaning.document (meaning.constant t.items)) o) v) (sym h.1)

pub no_template : (service : Service) (w : List ℕ) (v : meaning.Value) → position (λ (t : Template). same w t.name) service.templates ≡ None →
    v ≡ unwrap_or (template_value service w) v
no_template service w v e =
    ap (λ o. unwrap_or (option_map (λ (t : Template). meaning.document (meaning.constant t.items)) o) v)
    (sym (found_none (λ (t : Template). same w t.name) service.templates e))

-- ---- locals, shared variables, templates

pub local_named : (service : Service) (l s : List (List ℕ × Value)) (w : List ℕ) (v : Value) → beside w l ≡ Some v →
    value v ≡ spec.named service (values l) (values s) w
local_named service l s w v e =
    ap (λ o. unwrap_or (option_or o (option_or (beside w (values s)) (template_value service w))) (meaning.number (pos 0))) (sym (beside_values w l
    ∙ ap (option_map value) e))

pub shared_named : (service : Service) (l s : List (List ℕ × Value)) (w : List ℕ) (v : Value) → beside w l ≡ None → beside w s ≡ Some v →
    value v ≡ spec.named service (values l) (values s) w
shared_named service l s w v n e =
    ap (λ o. unwrap_or (option_or o (template_value service w)) (meaning.number (pos 0))) (sym (beside_values w s ∙ ap (option_map value) e))
    ∙ ap (λ o. unwrap_or (option_or o (option_or (beside w (values s)) (template_value service w))) (meaning.number (pos 0))) (sym (beside_values w l
    ∙ ap (option_map value) n))

pub template_named : (service : Service) (l s : List (List ℕ × Value)) (w : List ℕ) → beside w l ≡ None → beside w s ≡ None →
    unwrap_or (template_value service w) (meaning.number (pos 0)) ≡ spec.named service (values l) (values s) w
template_named service l s w n m =
    ap (λ o. unwrap_or (option_or o (template_value service w)) (meaning.number (pos 0))) (sym (beside_values w s ∙ ap (option_map value) m))
    ∙ ap (λ o. unwrap_or (option_or o (option_or (beside w (values s)) (template_value service w))) (meaning.number (pos 0))) (sym (beside_values w l
    ∙ ap (option_map value) n))
