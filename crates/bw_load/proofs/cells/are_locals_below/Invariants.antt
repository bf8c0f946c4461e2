use Rattle.std.proofs.Common.{◌≡◌, drop}
use Rattle.std.specs.List.{list_all}
use Rattle.bw_analyse.specs.Facts.{local_fact}
use Rattle.bw_flow.specs.declared.point.Local.{Local}
use Rattle.bw_lang.specs.Table.Names.{beside}
use Rattle.bw_load.specs.Cells.{is_cell_below}
use Rattle.bw_load.proofs.cells.are_locals_below.Given as goal

abbrev pub invariant-loop-local : goal.invariant-loop-local
invariant-loop-local l =
    list_all (λ (x : Local). is_cell_below l.typed.service (beside x.name l.locals) (local_fact l.facts l.point x.name)) (drop l.local-index l.scope)
    ≡ list_all (λ (x : Local). is_cell_below l.typed.service (beside x.name l.locals) (local_fact l.facts l.point x.name)) l.scope
