use Rattle.bw_doc.proofs.NoteLaws.{table_noted, note_room}
use Rattle.bw_doc.proofs.notes.table_of.Goals as goal

pub add-requires : goal.add-requires
add-requires c =
    let x = c.note-item.result in
    note_room c.args.notes.now c.loop-note.note-index x x c.loop-note.table c.note-item.is c.loop-note-test.true c.loop-note.invariant c.requires

pub loop-note-preserved : goal.loop-note-preserved
loop-note-preserved c =
    let x = c.note-item.result in
    table_noted c.args.notes.now c.loop-note.note-index x x c.loop-note.table c.add.new.self c.note-item.is c.loop-note-test.true c.loop-note.invariant
    c.in_ok-add.ensures
