use Rattle.std.proofs.Common.{◌≡◌, ◌++◌, ap, sym, subst, ◌∙◌}
use Rattle.bw_doc.specs.Notes.{AreFew, notes, all_noted}
use Rattle.bw_doc.proofs.NoteLaws.{notes_are_few, noted_is}
use Rattle.bw_doc.proofs.notes.openings.Goals as goal

pub table_of-requires : goal.table_of-requires
table_of-requires c =
    let e : c.deref.result.now ≡ notes 0 c.args.items.now = c.deref.ensures.value ∙ c.in_ok-note_items.ensures
    ∙ ap (λ x. x ++ notes 0 c.args.items.now) c.new-notes.ensures.items in
    subst AreFew (sym e) (notes_are_few c.args.items.now c.requires.gaps)

pub returns : goal.returns
returns c = λ g.
    let e : c.deref.result.now ≡ notes 0 c.args.items.now = c.deref.ensures.value ∙ c.in_ok-note_items.ensures
    ∙ ap (λ x. x ++ notes 0 c.args.items.now) c.new-notes.ensures.items in
    c.in_ok-table.ensures g ∙ ap (all_noted g) e ∙ noted_is g c.args.items.now
