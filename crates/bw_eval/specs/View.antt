-- What the code's values stand for.
use Rattle.std.specs.Prelude.{ℕ, List, map, Result, Ok, Err, true, false}
use Rattle.std.specs.Prelude.{Bool as Truth}
use Rattle.bw_lang.specs.declared.turn.TurnFault.{TurnFault}
use Rattle.bw_lang.specs.declared.turn.TurnFault.TheVariants as faults
use Rattle.bw_doc.specs.declared.fault.DocFault.{DocFault}
use Rattle.bw_doc.specs.declared.fault.DocFault.TheVariants.{Heavy, Deep, Nested, Memory}
use Rattle.bw_doc.specs.Made.{Made, tree, measure}
use Rattle.bw_eval.specs.declared.value.Value.{Value}
use Rattle.bw_eval.specs.declared.value.Value.TheVariants.{Int, Bool, Str, Html, Strs}
use Rattle.bw_meaning.specs.Values as meaning

-- the document value of a document
abbrev pub document : Made → meaning.Document
document d = record { tree = tree d; measure = measure d }

-- the value of the meaning
abbrev pub value : Value → meaning.Value
value (Int n) = meaning.number n
value (Bool b) = meaning.truth_value b
value (Str s) = meaning.text s
value (Html d) = meaning.document (document d)
value (Strs strings) = meaning.list strings

-- names with the values of the meaning
abbrev pub named : List ℕ × Value → List ℕ × meaning.Value
named x = (x.0, value x.1)

abbrev pub values : List (List ℕ × Value) → meaning.Values
values xs = map named xs

-- a result that takes no unit
abbrev pub resulted : Result Value TurnFault → Result meaning.Value TurnFault
resulted (Ok v) = Ok (value v)
resulted (Err f) = Err f

-- a document that takes no unit
abbrev pub plugged : Result Made TurnFault → Result meaning.Value TurnFault
plugged (Ok d) = Ok (meaning.document (document d))
plugged (Err f) = Err f

-- whether it is a list
abbrev pub is_list : meaning.Value → Truth
is_list (meaning.list strings) = true
is_list v = false

-- the failure of a turn that a plug's failure is
abbrev pub turn_fault : DocFault → TurnFault
turn_fault (Heavy n) = faults.Heavy n
turn_fault (Deep n) = faults.Deep n
turn_fault (Nested n) = faults.Nested n
turn_fault Memory = faults.Memory
