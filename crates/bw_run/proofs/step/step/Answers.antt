use Rattle.std.proofs.Common.{sym, subst}
use Rattle.bw_flow.specs.View.{act, seen}
use Rattle.bw_run.specs.Code.{Does}
use Rattle.bw_run.proofs.step.step.Goals as goal

pub returns-in-Show : goal.returns-in-Show
returns-in-Show g c =
    subst (λ w. Does c.args.typed.now.service (act w) (seen c.args.point.now) c.args.standing.now c.show.new.standing c.args.steps.now c.show.new.steps
    c.show.result) (sym c.in-Show.is) (c.show.ensures c.in-Show.receives)
