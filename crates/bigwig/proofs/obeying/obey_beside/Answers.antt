use Rattle.bigwig.specs.Lent.{seen_of}
use Rattle.bw_questions.specs.Checks.{ruled_by}
use Rattle.bigwig.proofs.Running.{service_runs, service_stops}
use Rattle.bigwig.proofs.obeying.obey_beside.Goals as goal

pub returns-in-Ok-clause-comes : goal.returns-in-Ok-clause-comes
returns-in-Ok-clause-comes g c =
    service_runs _ _ c.args.command.now _ _ _ c.in-Ok.kept.text.items (ruled_by c.in-Ok.kept.served)
    (seen_of g.F.Files g.J.Journals g.D.Door g.K.Keys g.W.Channel c.args.lent.now)
    (seen_of g.F.Files g.J.Journals g.D.Door g.K.Keys g.W.Channel c.run_beside.new.lent) (g.F.Files.unread c.load_kept.new.files) _
    c.named_beside.ensures.names c.in-Ok.ensures.told c.in-Ok.ensures.text c.in-Ok.ensures.answers c.run_beside.ensures.comes

pub returns-in-Err-clause-comes : goal.returns-in-Err-clause-comes
returns-in-Err-clause-comes g c =
    service_stops _ c.args.command.now _ _ _ c.in-Err.stop (seen_of g.F.Files g.J.Journals g.D.Door g.K.Keys g.W.Channel c.args.lent.now) _ _ _
    c.named_beside.ensures.names c.in-Err.ensures.answers c.report.ensures.reported
