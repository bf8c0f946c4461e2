use Rattle.bigwig.proofs.Followed.{script_followed, none_followed}
use Rattle.bigwig.proofs.visiting.visit_by.Goals as goal

pub returns-in-Some-clause-comes : goal.returns-in-Some-clause-comes
returns-in-Some-clause-comes g c = λ ruled unread is.
    script_followed ruled c.args.bytes.now c.in-Some.script _ _ _ _ unread _ _ _ c.in-Some.ensures (c.visit_from.ensures.comes ruled unread is)

pub returns-in-None-clause-comes : goal.returns-in-None-clause-comes
returns-in-None-clause-comes g c = λ ruled unread is.
    none_followed ruled c.args.bytes.now c.no_script.result _ _ _ unread _ _ c.in-None.ensures c.no_script.ensures.says c.report.ensures.reported
