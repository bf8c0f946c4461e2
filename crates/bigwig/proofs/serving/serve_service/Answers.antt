use Rattle.std.proofs.Common.{None}
use Rattle.bw_save.specs.Frozen.{loaded_of}
use Rattle.bigwig.specs.Asked.{at_port}
use Rattle.bigwig.specs.Lent.{seen_of}
use Rattle.bigwig.proofs.Begun.{port_begun, port_stopped}
use Rattle.bigwig.proofs.Causes.{reported_causes}
use Rattle.bigwig.proofs.serving.serve_service.Goals as goal

pub returns-in-Ok-clause-comes : goal.returns-in-Ok-clause-comes
returns-in-Ok-clause-comes g c =
    port_begun _ c.args.load.now c.args.kept.text.items c.deref.result.now _ _ _ _ (loaded_of c.in-Ok.server.world) (at_port c.args.port c.args.most)
    (record (seen_of g.F.Files g.J.Journals g.D.Door g.K.Keys g.W.Channel c.args.lent.now) { unread = None })
    (record (seen_of g.F.Files g.J.Journals g.D.Door g.K.Keys g.W.Channel c.serve_port-status.new.lent) { unread = None })
    _ c.deref.ensures.value c.in-Ok.ensures.service c.in-Ok.ensures.formats c.in-Ok.ensures.answers c.serve_port-status.ensures.comes

pub returns-in-Err-clause-comes : goal.returns-in-Err-clause-comes
returns-in-Err-clause-comes g c =
    port_stopped _ c.args.load.now c.args.kept.text.items c.deref.result.now _ _ (at_port c.args.port c.args.most) c.in-Err.stop
    (seen_of g.F.Files g.J.Journals g.D.Door g.K.Keys g.W.Channel c.args.lent.now) _ _ c.deref.ensures.value c.in-Err.ensures.answers c.report.ensures.reported

pub returns-in-Err-clause-causes : goal.returns-in-Err-clause-causes
returns-in-Err-clause-causes g c =
    reported_causes c.begin_server-begun.result c.in-Err.stop c.report.result _ _ _ _ _ _ c.in-Err.is c.begin_server-begun.ensures.read_fault c.report.ensures.read c.report.ensures.reads
    c.report.ensures.write_fault c.report.ensures.others c.report.ensures.no_journal
