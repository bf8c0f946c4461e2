-- What the code finds of marks.
-- It only follows the steps of the code: nothing is promised by it.
use Rattle.std.specs.Prelude.{◌≡◌, ℕ, List, [], map, Option, Some, None}
use Rattle.bw_schema.specs.MarkView.{mark_of}
use Rattle.bw_schema.specs.Marks.{AreSame, Mark, first_repeated, repeated, unknown}
use Rattle.bw_schema.specs.declared.fault.SchemaFault.{SchemaFault}
use Rattle.bw_schema.specs.declared.fault.SchemaFault.TheVariants as fault
use Rattle.bw_schema.specs.declared.lines.Line.{Line}
use Rattle.bw_schema.specs.declared.marks.Mark.{Mark as Held}

abbrev pub marks_of : List Held → List Mark
marks_of marks = map mark_of marks

-- none stands twice, and the set has them
abbrev pub IsOnce : List Held → List Mark → Type 0
IsOnce marks set = (first_repeated [] (marks_of marks) ≡ None) × AreSame set (marks_of marks)

-- the fault names what there is, or it is want of memory
abbrev pub SaysRepeated : Option (List ℕ) → SchemaFault → Type 0
SaysRepeated o fault.Memory = Unit {0}
SaysRepeated o (fault.Repeated name) = o ≡ Some name
SaysRepeated o fault.Malformed = ⊥
SaysRepeated o (fault.Version n) = ⊥
SaysRepeated o (fault.Unknown name) = ⊥
SaysRepeated o fault.TooLong = ⊥

abbrev pub SaysUnknown : Option (List ℕ) → SchemaFault → Type 0
SaysUnknown o fault.Memory = Unit {0}
SaysUnknown o (fault.Unknown name) = o ≡ Some name
SaysUnknown o fault.Malformed = ⊥
SaysUnknown o (fault.Version n) = ⊥
SaysUnknown o (fault.Repeated name) = ⊥
SaysUnknown o fault.TooLong = ⊥

-- nothing is declared twice, and all that is used is declared
abbrev pub IsSound : List ℕ → List Line → Type 0
IsSound root lines = (repeated lines ≡ None) × (unknown root lines ≡ None)

-- the fault says what is declared twice, or else what isn't declared, or it is want of memory
abbrev pub IsFaulty : List ℕ → List Line → SchemaFault → Type 0
IsFaulty root lines fault.Memory = Unit {0}
IsFaulty root lines (fault.Repeated name) = repeated lines ≡ Some name
IsFaulty root lines (fault.Unknown name) = (repeated lines ≡ None) × (unknown root lines ≡ Some name)
IsFaulty root lines fault.Malformed = ⊥
IsFaulty root lines (fault.Version n) = ⊥
IsFaulty root lines fault.TooLong = ⊥
