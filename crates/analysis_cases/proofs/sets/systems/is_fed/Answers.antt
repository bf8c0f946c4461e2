use Rattle.std.proofs.Common.{◌==◌, ap, sym, ◌∙◌}
use Rattle.std.specs.List.{list_any}
use Rattle.analysis_cases.proofs.Places.{readers_are}
use Rattle.analysis_cases.proofs.sets.systems.is_fed.Goals as goal

pub returns : goal.returns
returns c =
    let read = readers_are c.args.cells.now c.args.source c.index-cells-source.result c.requires in
    c.contains.ensures.value ∙ ap (list_any (λ reader. reader == c.args.cell)) (c.deref.ensures.value ∙ sym read)
