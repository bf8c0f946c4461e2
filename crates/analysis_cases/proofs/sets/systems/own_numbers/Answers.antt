use Rattle.std.proofs.Common.{◌≡◌, [], sym, subst, ◌∙◌}
use Rattle.std.specs.Prelude.{IfOk}
use Rattle.analysis_cases.specs.Cells.{filled}
use Rattle.analysis_cases.proofs.Places.{own_is}
use Rattle.analysis_cases.proofs.sets.systems.own_numbers.Goals as goal

pub returns : goal.returns
returns c =
    let read = own_is c.args.cells.now c.args.cell c.index-cells-cell.result c.requires in
    subst (λ numbers. IfOk c.set_of.result (λ s. s ≡ filled [] numbers)) (c.deref.ensures.value ∙ sym read) c.set_of.ensures
