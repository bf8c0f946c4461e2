use Rattle.std.proofs.Common.{◌≡◌, drop}
use Rattle.std.specs.List.{list_all}
use Rattle.bw_analyse.specs.Facts.{shared_fact}
use Rattle.bw_lang.specs.declared.service.Shared.{Shared}
use Rattle.bw_lang.specs.Table.Names.{beside}
use Rattle.bw_load.specs.Cells.{is_cell_below}
use Rattle.bw_load.proofs.cells.are_shared_below.Given as goal

abbrev pub invariant-loop-variable : goal.invariant-loop-variable
invariant-loop-variable l =
    list_all (λ (x : Shared). is_cell_below l.typed.service (beside x.name l.shared) (shared_fact l.facts x.name)) (drop l.variable-index l.all)
    ≡ list_all (λ (x : Shared). is_cell_below l.typed.service (beside x.name l.shared) (shared_fact l.facts x.name)) l.all
