-- The first field that a form hasn't as it is due: by the kinds of the flow, and by the values that a session has.
use Rattle.std.proofs.Common.{◌≡◌, ◌≢◌, ℕ, Bool, true, false, cond, List, [], ◌∷◌, map, Option, Some, None, refl, ap, sym, ◌∙◌}
use Rattle.std.specs.Prelude.{if◌then◌else◌, find}
use Rattle.std.specs.List.{All}
use Rattle.std.specs.Option.{option_or, option_map}
use Rattle.std.proofs.lemmas.List.Elements.{All-head, All-tail}
use Rattle.bw_http.specs.declared.replies.Reply.{Reply}
use Rattle.bw_http.specs.declared.replies.Reply.TheVariants as replies
use Rattle.bw_lang.specs.declared.service.Service.{Service}
use Rattle.bw_lang.specs.declared.service.Shared.{Shared}
use Rattle.bw_lang.specs.declared.stmt.Kind.{Kind}
use Rattle.bw_lang.specs.declared.stmt.Kind.TheVariants as kinds
use Rattle.bw_lang.specs.declared.stmt.Receive.{Receive}
use Rattle.bw_lang.specs.Service.Drafts.{IsShareable}
use Rattle.bw_lang.specs.Table.Names.{same, beside}
use Rattle.bw_lang.specs.Service.Submissions.{values_of}
use Rattle.bw_types.specs.Scopes.{shared_kind}
use Rattle.bw_flow.specs.declared.point.Local.{Local}
use Rattle.bw_flow.specs.Layout.{receives, number_of_field}
use Rattle.bw_flow.specs.Scopes.{kind_in, kind_or_string, target_kind}
use Rattle.bw_flow.proofs.Names.{kind_in_is}
use Rattle.bw_run.specs.Follow.Kinds.{kind_of, kinds_of, kinds_in}
use Rattle.bw_run.proofs.Follow.ValueKinds.{beside_kinds}
use Rattle.bw_meaning.specs.States.{Form}
use Rattle.bw_meaning.specs.Values.{Value, Values, number, truth_value, text, document, list}
use Rattle.bw_model.specs.Received.{long_refusal, string_refusal, refusal, first_refusal}
use Rattle.bw_run.specs.declared.fields.FieldFault.{FieldFault}
use Rattle.bw_run.specs.declared.fields.FieldFault.TheVariants as fields
use Rattle.bw_run.specs.Missing.{is_long, too_long, string_fault, field_fault, first_missing}
use Rattle.bw_world.specs.Changes.{refused}

long_is : (f : ℕ) (vs : List (List ℕ)) → long_refusal f vs ≡ option_map refused (too_long f vs)
long_is f vs = by (is_long vs)
  where
    by : (b : Bool) → (if b then Some (replies.FieldTooLong f) else None) ≡ option_map refused (if b then Some (fields.TooLong f) else None)
    by true = refl
    by false = refl

string_is : (f : ℕ) (vs : List (List ℕ)) → string_refusal f vs ≡ option_map refused (string_fault f vs)
string_is f [] = refl
string_is f (v ∷ []) = long_is f (v ∷ [])
string_is f (v ∷ (w ∷ vs)) = refl

-- what isn't a list takes a string
kind_is : (f : ℕ) (k : Kind) (vs : List (List ℕ)) → k ≢ kinds.Strs → string_refusal f vs ≡ option_map refused (field_fault f k vs)
kind_is f kinds.Int vs h = string_is f vs
kind_is f kinds.Bool vs h = string_is f vs
kind_is f kinds.Str vs h = string_is f vs
kind_is f kinds.Html vs h = string_is f vs
kind_is f kinds.Strs vs h = absurd (h refl)

-- by the value that a variable has, or by the kind of one that has none
field_is : (f : ℕ) (o : Option Value) (k : Option Kind) (vs : List (List ℕ)) → kind_or_string k ≢ kinds.Strs
    → refusal f o vs ≡ option_map refused (field_fault f (kind_or_string (option_or (option_map kind_of o) k)) vs)
field_is f None k vs h = kind_is f (kind_or_string k) vs h
field_is f (Some (number n)) k vs h = string_is f vs
field_is f (Some (truth_value b)) k vs h = string_is f vs
field_is f (Some (text s)) k vs h = string_is f vs
field_is f (Some (document d)) k vs h = string_is f vs
field_is f (Some (list ss)) k vs h = long_is f vs

-- no shared variable is a list
no_list : (w : List ℕ) (vs : List Shared) → All (λ v. IsShareable v.kind) vs → kind_or_string (beside w (map (λ v. (v.name, v.kind)) vs)) ≢ kinds.Strs
no_list w [] h = λ e. cc
no_list w (v ∷ vs) h = by (same w v.name) (no_list w vs (All-tail (λ v. IsShareable v.kind) v vs h))
  where
    by : (b : Bool) → kind_or_string (beside w (map (λ v. (v.name, v.kind)) vs)) ≢ kinds.Strs
        → kind_or_string (option_map (λ (x : List ℕ × Kind). x.1) (cond b (Some (v.name, v.kind))
        (find (λ x. same w x.0) (map (λ v. (v.name, v.kind)) vs)))) ≢ kinds.Strs
    by true ih = All-head (λ v. IsShareable v.kind) v vs h
    by false ih = ih

module _ (service : Service) (scope : List Local) (locals : Values) (form : Form) (shared : All (λ v. IsShareable v.kind) service.shared)
    (fit : kinds_of locals ≡ kinds_in scope) where
  -- the kind of the local of that name
  local_kind : (w : List ℕ) → option_map kind_of (beside w locals) ≡ kind_in scope w
  local_kind w = sym (beside_kinds w locals) ∙ ap (beside w) fit ∙ kind_in_is scope w

  one : (r : Receive) → refusal (number_of_field service r.field) (beside r.target locals) (values_of r.field form)
      ≡ option_map refused (field_fault (number_of_field service r.field) (target_kind service scope r.target) (values_of r.field form))
  one r =
      field_is (number_of_field service r.field) (beside r.target locals) (shared_kind service r.target) (values_of r.field form)
      (no_list r.target service.shared shared)
      ∙ ap (λ o. option_map refused (field_fault (number_of_field service r.field) (kind_or_string (option_or o (shared_kind service r.target)))
      (values_of r.field form))) (local_kind r.target)

  mapped_or : (a b : Option FieldFault) (c d : Option Reply) → c ≡ option_map refused a → d ≡ option_map refused b
      → option_or c d ≡ option_map refused (option_or a b)
  mapped_or None b c d e f = (λ i. option_or (e i) (f i))
  mapped_or (Some x) b c d e f = (λ i. option_or (e i) d)

  pub refusals_agree : (rs : List Receive) → first_refusal service rs locals form ≡ option_map refused (first_missing (receives service scope rs) form)
  refusals_agree [] = refl
  refusals_agree (r ∷ rs) = mapped_or _ _ _ _ (one r) (refusals_agree rs)
