use Rattle.std.proofs.Common.{◌<◌, refl, ap, sym, subst, ◌∙◌, length}
use Rattle.std.specs.List.{All}
use Rattle.analysis_cases.specs.declared.sets.cells.Cell.{Cell}
use Rattle.analysis_cases.specs.Cells.{readers_at}
use Rattle.analysis_cases.proofs.Places.{readers_are}
use Rattle.analysis_cases.proofs.Rising.{one_more}
use Rattle.analysis_cases.proofs.sets.systems.are_in_range.Goals as goal

pub loop-cell-preserved : goal.loop-cell-preserved
loop-cell-preserved c =
    let cells = c.args.cells.now in
    let i = c.loop-cell.cell-index in
    let read = readers_are cells i c.cell-item.result c.loop-cell-test.true in
    let value = c.deref.ensures.value ∙ ap (λ (d : Cell). d.readers.items) c.cell-item.is ∙ sym read in
    one_more (λ k. All (λ reader. reader < length cells) (readers_at cells k)) i c.loop-cell.invariant
    (subst (All (λ reader. reader < length cells)) value (c.if-not-are_below.ensures refl))
