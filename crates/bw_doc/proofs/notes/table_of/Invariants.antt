use Rattle.std.proofs.Common.{take}
use Rattle.bw_doc.specs.Notes.{all_noted}
use Rattle.bw_doc.specs.Spots.{IsTableOf}
use Rattle.bw_doc.proofs.notes.table_of.Given as goal

abbrev pub invariant-loop-note : goal.invariant-loop-note
invariant-loop-note l = IsTableOf (λ g. all_noted g (take l.note-index l.notes)) l.table
