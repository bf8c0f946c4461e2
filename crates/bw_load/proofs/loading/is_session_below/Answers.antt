use Rattle.std.proofs.Common.{◌≡◌, sym, subst}
use Rattle.bw_run.specs.Follow.Kinds.{kinds_in}
use Rattle.bw_load.specs.Cells.{IsBuiltValue}
use Rattle.bw_types.specs.declared.typed.Typed.{Typed}
use Rattle.bw_load.proofs.Built.{variables_built}
use Rattle.bw_load.proofs.loading.is_session_below.Goals as goal

pub are_locals_below-requires-clause-built : goal.are_locals_below-requires-clause-built
are_locals_below-requires-clause-built c = λ w v e.
    subst (λ (t : Typed). IsBuiltValue t.service v) (sym c.typed.ensures)
    (variables_built c.args.checked.now.typed.service (kinds_in c.requires.session.step.scope) c.args.one.now.frame.locals c.requires.session.waits.locals
    w v e)
