use Rattle.std.proofs.Common.{ap, ◌∙◌}
use Rattle.bw_eval.specs.View.{values}
use Rattle.bw_run.specs.Code.{state}
use Rattle.bw_run.proofs.Stores.{values_take}
use Rattle.bw_run.proofs.standing.Standing.cut.Goals as goal

pub returns-clause-state : goal.returns-clause-state
returns-clause-state c =
    let st = state c.args.self.now in
    ap (λ l. record st { locals = l }) (ap values c.truncate.ensures ∙ values_take c.args.count c.args.self.now.locals)
