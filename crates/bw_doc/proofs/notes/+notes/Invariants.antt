use Rattle.std.proofs.Common.{◌≡◌, ◌++◌, take}
use Rattle.bw_lang.specs.Document.View.{forest}
use Rattle.bw_doc.specs.Notes.{notes}
use Rattle.bw_doc.proofs.notes.+notes.Given as goal

abbrev pub invariant-note_items-loop-item : goal.invariant-note_items-loop-item
invariant-note_items-loop-item l = l.notes.items ≡ l.initial.notes.items ++ notes l.around (forest (take l.item-index l.item-items))
