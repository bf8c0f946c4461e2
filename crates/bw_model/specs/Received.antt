-- The fields that a form has to have.
use Rattle.std.specs.Prelude.{ℕ, ◌+◌, ◌==◌, nat_lt, if◌then◌else◌, List, [], ◌∷◌, ◌++◌, length, Option, Some, None}
use Rattle.std.specs.List.{list_any}
use Rattle.std.specs.Option.{option_or}
use Rattle.bw_http.specs.declared.replies.Reply.{Reply}
use Rattle.bw_http.specs.declared.replies.Reply.TheVariants as replies
use Rattle.bw_lang.specs.declared.service.Service.{Service}
use Rattle.bw_lang.specs.declared.stmt.Receive.{Receive}
use Rattle.bw_lang.specs.Service.Code.{Code, done, declare, assign, if_then, if_else, while_loop, block, for_each, show, exit, numbered}
use Rattle.bw_lang.specs.Table.Names.{beside, name_number, with_names}
use Rattle.bw_lang.specs.Service.Numbers.{first_number}
use Rattle.bw_lang.specs.Service.Submissions.{values_of}
use Rattle.bw_meaning.specs.GoOn.{body_of}
use Rattle.bw_meaning.specs.States.{Form}
use Rattle.bw_meaning.specs.Values.{Value, Values, list}
use Rattle.bw_types.specs.Fields.{field_names}
use Rattle.bw_lang.specs.declared.submission.TheConstants.{MAX_VALUE_BYTES}

-- what the show of number k receives, among statements of which the first has number n
abbrev pub receives_at : Code → ℕ → ℕ → List Receive
receives_at done n k = []
receives_at (declare kind w e rest) n k = receives_at rest (n + 1) k
receives_at (assign w e rest) n k = receives_at rest (n + 1) k
receives_at (if_then t y rest) n k = receives_at y (n + 1) k ++ receives_at rest (n + 1 + numbered y) k
receives_at (if_else t y z rest) n k =
    receives_at y (n + 1) k ++ (receives_at z (n + 1 + numbered y) k ++ receives_at rest (n + 1 + numbered y + numbered z) k)
receives_at (while_loop t b rest) n k = receives_at b (n + 1) k ++ receives_at rest (n + 1 + numbered b) k
receives_at (block b rest) n k = receives_at b n k ++ receives_at rest (n + numbered b) k
receives_at (for_each w e b rest) n k = receives_at b (n + 1) k ++ receives_at rest (n + 1 + numbered b) k
receives_at (show p rs rest) n k = (if n == k then rs else []) ++ receives_at rest (n + 1) k
receives_at (exit p rest) n k = receives_at rest (n + 1) k

-- what a show of a session receives
abbrev pub receives_of : Service → ℕ → ℕ → List Receive
receives_of service session at = receives_at (body_of service session) (first_number service session) at

-- the number of a field, which replies know it by: its place among the names of all fields
abbrev pub number_of_field : Service → List ℕ → ℕ
number_of_field service field = name_number (with_names [] (field_names service)) field

-- some value has more than 16,384 bytes
abbrev pub long_refusal : ℕ → List (List ℕ) → Option Reply
long_refusal field values = if list_any (λ v. nat_lt MAX_VALUE_BYTES (length v)) values then Some (replies.FieldTooLong field) else None

-- a string takes one value
abbrev pub string_refusal : ℕ → List (List ℕ) → Option Reply
string_refusal field [] = Some (replies.Lacking field)
string_refusal field (v ∷ []) = long_refusal field (v ∷ [])
string_refusal field (v ∷ (w ∷ values)) = Some (replies.Repeated field)

-- a list takes any number of values, and whether the variable is one is seen by the value that it has
abbrev pub refusal : ℕ → Option Value → List (List ℕ) → Option Reply
refusal field (Some (list strings)) values = long_refusal field values
refusal field old values = string_refusal field values

-- the refusal of the first field, in source order, that the form hasn't as it is due to a show with these locals
abbrev pub first_refusal : Service → List Receive → Values → Form → Option Reply
first_refusal service [] locals form = None
first_refusal service (r ∷ rs) locals form =
    option_or (refusal (number_of_field service r.field) (beside r.target locals) (values_of r.field form)) (first_refusal service rs locals form)
