-- A form that is refused is answered no page.
use Rattle.std.proofs.Common.{ℕ, Bool, true, false, List, [], ◌∷◌, length, Option, Some, None}
use Rattle.std.specs.Prelude.{nat_lt, if◌then◌else◌}
use Rattle.std.specs.List.{list_any}
use Rattle.std.specs.Option.{option_or}
use Rattle.bw_http.specs.declared.replies.Reply.{Reply}
use Rattle.bw_http.specs.declared.replies.Reply.TheVariants as replies
use Rattle.bw_lang.specs.declared.service.Service.{Service}
use Rattle.bw_lang.specs.declared.stmt.Receive.{Receive}
use Rattle.bw_lang.specs.Service.Submissions.{values_of}
use Rattle.bw_lang.specs.Table.Names.{beside}
use Rattle.bw_meaning.specs.States.{Form}
use Rattle.bw_meaning.specs.Values.{Value, Values, number, truth_value, text, document, list}
use Rattle.bw_model.specs.Received.{number_of_field, long_refusal, string_refusal, refusal, first_refusal}

module _ (P : Reply → Type 0) (long : (field : ℕ) → P (replies.FieldTooLong field)) (lacks : (field : ℕ) → P (replies.Lacking field))
    (twice : (field : ℕ) → P (replies.Repeated field)) where
  -- it holds of the refusal, if there is one
  abbrev pub OfRefusal : Option Reply → Type 0
  OfRefusal None = Unit {0}
  OfRefusal (Some reply) = P reply

  of_long : (field : ℕ) (values : List (List ℕ)) → OfRefusal (long_refusal field values)
  of_long field values = by_test (list_any (λ v. nat_lt 16384 (length v)) values)
    where
      by_test : (b : Bool) → OfRefusal (if b then Some (replies.FieldTooLong field) else None)
      by_test true = long field
      by_test false = tt

  of_string : (field : ℕ) (values : List (List ℕ)) → OfRefusal (string_refusal field values)
  of_string field [] = lacks field
  of_string field (v ∷ []) = of_long field (v ∷ [])
  of_string field (v ∷ (w ∷ values)) = twice field

  of_value : (field : ℕ) (old : Option Value) (values : List (List ℕ)) → OfRefusal (refusal field old values)
  of_value field None values = of_string field values
  of_value field (Some (number n)) values = of_string field values
  of_value field (Some (truth_value b)) values = of_string field values
  of_value field (Some (text s)) values = of_string field values
  of_value field (Some (document d)) values = of_string field values
  of_value field (Some (list strings)) values = of_long field values

  of_either : (o p : Option Reply) → OfRefusal o → OfRefusal p → OfRefusal (option_or o p)
  of_either None p h k = k
  of_either (Some reply) p h k = h

  pub of_first : (service : Service) (rs : List Receive) (locals : Values) (form : Form) → OfRefusal (first_refusal service rs locals form)
  of_first service [] locals form = tt
  of_first service (r ∷ rs) locals form =
      let field = number_of_field service r.field in
      of_either (refusal field (beside r.target locals) (values_of r.field form)) (first_refusal service rs locals form)
      (of_value field (beside r.target locals) (values_of r.field form)) (of_first service rs locals form)
