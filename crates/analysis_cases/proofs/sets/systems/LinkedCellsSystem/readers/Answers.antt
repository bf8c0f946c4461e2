use Rattle.std.proofs.Common.{◌<◌, length, ap, sym, subst, ◌∙◌}
use Rattle.std.specs.List.{All}
use Rattle.analysis_cases.specs.declared.sets.cells.Cell.{Cell}
use Rattle.analysis_cases.proofs.Places.{readers_are}
use Rattle.analysis_cases.proofs.sets.systems.LinkedCellsSystem.readers.Goals as goal

pub returns : goal.returns
returns c =
    let system = c.args.self.now in
    let cells = system.cells.items in
    let read = readers_are cells c.args.cell c.index.result.now c.requires in
    let value = c.as_slice.ensures.value ∙ ap (λ (d : Cell). d.readers.items) c.index.ensures ∙ sym read in
    record { value = value; each = subst (All (λ reader. reader < length cells)) (sym value) (system.in_range c.args.cell c.requires) }
