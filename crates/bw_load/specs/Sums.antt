-- What is known of a saved value: of a document by its operations, of a string by the service's literals.
use Rattle.std.specs.Prelude.{◌<◌, ℕ, nat_lt, List, [], ◌∷◌, length, Option, Some, None, if◌then◌else◌}
use Rattle.bw_analyse.specs.declared.abstracts.Abstract.{Abstract}
use Rattle.bw_analyse.specs.declared.abstracts.Abstract.TheVariants.{Nothing, Str, Html}
use Rattle.bw_doc.specs.Made.{Made, constant, plug, plug_text}
use Rattle.bw_doc.specs.Operations.{Operation}
use Rattle.bw_doc.specs.Operations as ops
use Rattle.bw_eval.specs.declared.value.Value.{Value}
use Rattle.bw_eval.specs.declared.value.Value.TheVariants as values
use Rattle.bw_lang.specs.declared.service.Service.{Service}
use Rattle.bw_lang.specs.Table.Names.{name_number}
use Rattle.bw_saved.specs.Fields.Reading.{◌>>=◌}
use Rattle.bw_strings.specs.declared.strings.StrSet.{StrSet}
use Rattle.bw_strings.specs.declared.strings.StrSet.TheVariants.{Any, Of}
use Rattle.bw_strings.specs.Literals.{literals_of}
use Rattle.bw_sum.specs.declared.summary.Summary.{Summary}
use Rattle.bw_sum.specs.Constants as sums
use Rattle.bw_sum.specs.Summaries.{plugged, plugged_text}
use Rattle.bw_sum.specs.Templates.{template_items}

-- a text that is a literal counts as that literal, any other as any string
abbrev pub string_of : List (List ℕ) → List ℕ → StrSet
string_of literals s = if nat_lt (name_number literals s) (length literals) then Of (name_number literals s ∷ []) else Any

-- the summary of a template
abbrev pub constant_sum : Service → ℕ → Summary
constant_sum service n = sums.constant_of n (template_items service n) (length service.gaps)

-- the summary of a document, by how it was made
abbrev pub sum_of : Service → Made → Summary
sum_of service (constant n items) = constant_sum service n
sum_of service (plug b g a) = plugged (sum_of service b) g (sum_of service a)
sum_of service (plug_text b g s) = plugged_text (sum_of service b) g (string_of (literals_of service) s)

-- what an operation makes of summaries on a stack, of which the first is on top
abbrev pub done : Service → Operation → List Summary → Option (List Summary)
done service (ops.constant n) stack = Some (constant_sum service n ∷ stack)
done service (ops.plug g) (a ∷ (b ∷ stack)) = Some (plugged b g a ∷ stack)
done service (ops.plug g) stack = None
done service (ops.plug_text g s) (b ∷ stack) = Some (plugged_text b g (string_of (literals_of service) s) ∷ stack)
done service (ops.plug_text g s) [] = None

-- what operations make of it, one after another
abbrev pub all_done : Service → List Operation → List Summary → Option (List Summary)
all_done service [] stack = Some stack
all_done service (o ∷ os) stack = done service o stack >>= all_done service os

-- what is known of a value: of numbers, truth values and lists nothing
abbrev pub known : Service → Value → Abstract
known service (values.Int n) = Nothing
known service (values.Bool b) = Nothing
known service (values.Str s) = Str (string_of (literals_of service) s)
known service (values.Html d) = Html (sum_of service d)
known service (values.Strs ss) = Nothing

-- a constant is a template of the service
abbrev pub IsKnown : Service → Operation → Type 0
IsKnown service (ops.constant n) = n < length service.templates
IsKnown service (ops.plug g) = Unit {0}
IsKnown service (ops.plug_text g s) = Unit {0}
