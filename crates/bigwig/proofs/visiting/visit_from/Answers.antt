use Rattle.bigwig.proofs.Followed.{nothing_followed, same_server}
use Rattle.bigwig.proofs.visiting.visit_from.Goals as goal

pub returns-in-Ok-clause-comes : goal.returns-in-Ok-clause-comes
returns-in-Ok-clause-comes g c = same_server _ _ _ _ _ c.in-Ok.ensures.service c.in-Ok.ensures.formats c.visit_at-status.ensures.comes

pub returns-in-Err-clause-comes : goal.returns-in-Err-clause-comes
returns-in-Err-clause-comes g c =
    nothing_followed c.args.served.checked.typed.service c.args.served.formats c.args.script.now (g.W.Channel.held c.args.out.now)
    (g.K.Keys.coming c.args.keys.now) c.args.steps.now
