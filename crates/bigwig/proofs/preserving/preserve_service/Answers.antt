use Rattle.bigwig.specs.Lent.{seen_of}
use Rattle.bigwig.proofs.Causes.{preserved_causes, reported_causes}
use Rattle.bigwig.proofs.Preserved.{save_stopped, world_saved}
use Rattle.bigwig.proofs.preserving.preserve_service.Goals as goal

pub returns-in-Err-clause-keeps : goal.returns-in-Err-clause-keeps
returns-in-Err-clause-keeps g c =
    save_stopped _ c.args.kept.served.checked.typed.service c.args.kept.served.formats c.args.name.now c.args.kept.text.items c.deref.result.now
    (seen_of g.F.Files g.J.Journals g.D.Door g.K.Keys g.W.Channel c.args.lent.now) (g.F.Files.unread c.bring_back.new.files)
    (g.W.Channel.held c.report.new.out) c.bring_back.new.steps c.in-Err.stop c.report.result c.deref.ensures.value c.in-Err.ensures.stops
    c.report.ensures.reported

pub returns-in-Err-clause-causes : goal.returns-in-Err-clause-causes
returns-in-Err-clause-causes g c =
    reported_causes c.bring_back.result c.in-Err.stop c.report.result _ _ _ _ _ _ c.in-Err.is c.bring_back.ensures.read_fault c.report.ensures.read
    c.report.ensures.reads c.report.ensures.write_fault c.report.ensures.others c.report.ensures.no_journal

pub returns-in-Ok-clause-keeps : goal.returns-in-Ok-clause-keeps
returns-in-Ok-clause-keeps g c =
    world_saved _ c.args.kept.served.checked.typed.service c.args.kept.served.formats c.args.name.now c.args.kept.text.items c.deref.result.now
    c.deref-in-Ok.result.now (seen_of g.F.Files g.J.Journals g.D.Door g.K.Keys g.W.Channel c.args.lent.now)
    (g.F.Files.unread c.bring_back.new.files) (g.W.Channel.held c.print_world-status.new.out) c.bring_back.new.steps c.in-Ok.brought.server.world
    c.in-Ok.brought.found c.print_world-status.result c.deref.ensures.value c.deref-in-Ok.ensures.value c.in-Ok.ensures.service
    c.in-Ok.ensures.found c.print_world-status.ensures.frozen

pub returns-in-Ok-clause-causes : goal.returns-in-Ok-clause-causes
returns-in-Ok-clause-causes g c =
    preserved_causes c.bring_back.result c.in-Ok.brought c.print_world-status.result _ _ _ _ _ _ c.in-Ok.is c.bring_back.ensures.read_fault
    c.print_world-status.ensures.no_read c.print_world-status.ensures.write_fault c.print_world-status.ensures.others
    c.print_world-status.ensures.no_journal
