-- The first received field that a form hasn't as it is due.
use Rattle.std.specs.Prelude.{ℕ, Bool, nat_lt, List, [], ◌∷◌, length, if◌then◌else◌, Option, Some, None}
use Rattle.std.specs.List.{list_any}
use Rattle.std.specs.Option.{option_or}
use Rattle.bw_lang.specs.declared.stmt.Kind.{Kind}
use Rattle.bw_lang.specs.declared.stmt.Kind.TheVariants as kinds
use Rattle.bw_lang.specs.Service.Submissions.{values_of}
use Rattle.bw_flow.specs.declared.point.Received.{Received}
use Rattle.bw_run.specs.declared.fields.FieldFault.{FieldFault}
use Rattle.bw_run.specs.declared.fields.FieldFault.TheVariants.{Lacking, Repeated, TooLong}
use Rattle.bw_lang.specs.declared.submission.TheConstants.{MAX_VALUE_BYTES}

-- some value has more than 16,384 bytes
abbrev pub is_long : List (List ℕ) → Bool
is_long values = list_any (λ v. nat_lt MAX_VALUE_BYTES (length v)) values

-- a value over the limit
abbrev pub too_long : ℕ → List (List ℕ) → Option FieldFault
too_long field values = if is_long values then Some (TooLong field) else None

-- a string takes one value: none is lacking, and two or more are repeated
abbrev pub string_fault : ℕ → List (List ℕ) → Option FieldFault
string_fault field [] = Some (Lacking field)
string_fault field (v ∷ []) = too_long field (v ∷ [])
string_fault field (v ∷ (w ∷ values)) = Some (Repeated field)

-- a list takes any number of values
abbrev pub field_fault : ℕ → Kind → List (List ℕ) → Option FieldFault
field_fault field kinds.Strs values = too_long field values
field_fault field kind values = string_fault field values

-- of the received fields, in source order, the first with a fault
abbrev pub first_missing : List Received → List (List ℕ × List ℕ) → Option FieldFault
first_missing [] form = None
first_missing (r ∷ rs) form = option_or (field_fault r.id r.kind (values_of r.field form)) (first_missing rs form)
