-- Reading of documents from left to right: operations on a stack of documents, of which the first is on top.
use Rattle.std.specs.Prelude.{ℕ, zero, suc, ◌+◌, nat_lt, nat_le, Bool, true, false, ◌&&◌, List, [], ◌∷◌, length, Option, Some, None, Result, Ok, Err}
use Rattle.std.specs.Prelude.{if◌then◌else◌}
use Rattle.std.specs.Int.{w16, w32}
use Rattle.bw_doc.specs.Made.{Made, constant, plug, plug_text, tree, measure}
use Rattle.bw_doc.specs.Operations.{items_at}
use Rattle.bw_lang.specs.declared.measure.Measure.{Measure}
use Rattle.bw_lang.specs.declared.measure.MeasureFault.{MeasureFault}
use Rattle.bw_lang.specs.declared.measure.TheConstants.{MAX_WEIGHT}
use Rattle.bw_lang.specs.declared.service.Service.{Service}
use Rattle.bw_lang.specs.Document.Documents.{count}
use Rattle.bw_lang.specs.Document.Measures.{tested}
use Rattle.bw_saved.specs.Fields.Reading.{◌>>=◌, number_at, text_at}
use Rattle.bw_types.specs.declared.fault.GapKind.{GapKind}
use Rattle.bw_types.specs.declared.fault.GapKind.TheVariants.{Content, Attribute}
use Rattle.bw_types.specs.Gaps.{kind_of_number}

-- a gap of this kind takes documents
abbrev pub is_content : Option GapKind → Bool
is_content (Some Content) = true
is_content (Some Attribute) = false
is_content None = false

-- the document, if its measure is within the limits
abbrev pub kept : Made → Result Measure MeasureFault → Option Made
kept d (Ok m) = Some d
kept d (Err e) = None

-- the gap is one of the service's, and open
abbrev pub opens : Service → Made → ℕ → Bool
opens service b g = nat_lt g (length service.gaps) && nat_lt 0 (count g (tree b))

-- the document of a template
abbrev pub constant_of : Service → ℕ → Option Made
constant_of service n = if nat_lt n (length service.templates) then Some (constant n (items_at service.templates n)) else None

-- b with the document a in its gaps g
abbrev pub plug_of : Service → ℕ → Made → Made → Option Made
plug_of service g b a =
    if is_content (kind_of_number service g) then if opens service b g then kept (plug b g a) (tested (measure (plug b g a))) else None else None

-- b with the text s in its gaps g
abbrev pub text_of : Service → ℕ → List ℕ → Made → Option Made
text_of service g s b = if opens service b g then kept (plug_text b g s) (tested (measure (plug_text b g s))) else None

-- ---- the stack

-- what all documents of a stack weigh
abbrev pub stack_weight : List Made → ℕ
stack_weight [] = 0
stack_weight (d ∷ stack) = (measure d).weight + stack_weight stack

-- The stack, if it weighs no more than one document may: the document that is made of a stack weighs at least as much as all of it.
abbrev pub if_light_enough : List Made → Option (List Made)
if_light_enough stack = if nat_le (stack_weight stack) MAX_WEIGHT then Some stack else None

-- a document more on top
abbrev pub on_top : List Made → Option Made → Option (List Made)
on_top stack None = None
on_top stack (Some d) = if_light_enough (d ∷ stack)

-- what each operation makes of the stack
abbrev pub put_constant : Service → ℕ → List Made → Option (List Made)
put_constant service n stack = on_top stack (constant_of service n)

abbrev pub put_plug : Service → ℕ → List Made → Option (List Made)
put_plug service g [] = None
put_plug service g (a ∷ []) = None
put_plug service g (a ∷ b ∷ stack) = on_top stack (plug_of service g b a)

abbrev pub put_text : Service → ℕ → List ℕ → List Made → Option (List Made)
put_text service g s [] = None
put_text service g s (b ∷ stack) = on_top stack (text_of service g s b)

-- an operation, with the stack that it makes
unfoldable pub operation_at : Service → List Made → List ℕ → Option (List Made × List ℕ)
operation_at service stack [] = None
operation_at service stack (zero ∷ bytes) = do
  n ← number_at w16 bytes
  next ← put_constant service n.0 stack
  Some (next, n.1)
operation_at service stack (suc zero ∷ bytes) = do
  g ← number_at w16 bytes
  next ← put_plug service g.0 stack
  Some (next, g.1)
operation_at service stack (suc (suc zero) ∷ bytes) = do
  g ← number_at w16 bytes
  s ← text_at g.1
  next ← put_text service g.0 s.0 stack
  Some (next, s.1)
operation_at service stack (suc (suc (suc b)) ∷ bytes) = None

-- the one document that is left
abbrev pub only : List Made → List ℕ → Option (Made × List ℕ)
only [] bytes = None
only (d ∷ []) bytes = Some (d, bytes)
only (d ∷ e ∷ stack) bytes = None

-- so many operations, which leave one document
unfoldable pub operations_at : Service → ℕ → List Made → List ℕ → Option (Made × List ℕ)
operations_at service zero stack bytes = only stack bytes
operations_at service (suc n) stack bytes = operation_at service stack bytes >>= λ x. operations_at service n x.0 x.1

-- how many operations there are, and these
unfoldable pub document_at : Service → List ℕ → Option (Made × List ℕ)
document_at service bytes = do
  n ← number_at w32 bytes
  operations_at service n.0 [] n.1
