use Rattle.std.proofs.Common.{◌≡◌, sym, subst}
use Rattle.bw_load.specs.Cells.{IsBuiltValue}
use Rattle.bw_types.specs.declared.typed.Typed.{Typed}
use Rattle.bw_types.specs.Scopes.{shared_kinds}
use Rattle.bw_load.proofs.Built.{variables_built}
use Rattle.bw_load.proofs.loading.uncovered.Goals as goal

pub are_shared_below-requires-clause-built : goal.are_shared_below-requires-clause-built
are_shared_below-requires-clause-built c = λ w v e.
    subst (λ (t : Typed). IsBuiltValue t.service v) (sym c.typed-typed.ensures)
    (variables_built c.args.checked.now.typed.service (shared_kinds c.args.checked.now.typed.service) c.args.saved.now.shared c.requires.saved.shared w v e)
