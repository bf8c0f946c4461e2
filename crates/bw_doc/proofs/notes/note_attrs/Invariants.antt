use Rattle.std.proofs.Common.{◌≡◌, ◌++◌, take}
use Rattle.bw_doc.specs.Notes.{attr_notes}
use Rattle.bw_doc.proofs.notes.note_attrs.Given as goal

abbrev pub invariant-loop-attr : goal.invariant-loop-attr
invariant-loop-attr l = l.notes.items ≡ l.initial.notes.items ++ attr_notes l.around (take l.attr-index l.attr-items)
