use Rattle.bigwig.specs.Finding.{IsTask}
use Rattle.bigwig.specs.Lent.{seen_of}
use Rattle.bigwig.specs.Works.{Outside}
use Rattle.bigwig.proofs.Beside.{begun_told, stopped_told}
use Rattle.bigwig.proofs.Causes.{reported_read}
use Rattle.bigwig.proofs.keeping.keep_beside.Goals as goal

pub returns-in-Err-clause-keeps : goal.returns-in-Err-clause-keeps
returns-in-Err-clause-keeps g c =
    let o : Outside = record (seen_of g.F.Files g.J.Journals g.D.Door g.K.Keys g.W.Channel c.args.lent.now) { deeds = g.I.Journal.deeds c.args.journal.now } in
    stopped_told _ c.args.kept.served.checked.typed.service c.args.kept.served.formats c.args.name.now c.args.kept.text.items c.deref.result.now
    (IsTask g.F.File.Channel.left c.args.task) o (g.F.Files.unread c.close_task.new.files) (g.W.Channel.held c.report.new.out)
    c.bring_back.new.steps c.in-Err.stop c.report.result c.deref.ensures.value c.in-Err.ensures.stops c.report.ensures.reported

pub returns-in-Ok-clause-keeps : goal.returns-in-Ok-clause-keeps
returns-in-Ok-clause-keeps g c =
    let o : Outside = record (seen_of g.F.Files g.J.Journals g.D.Door g.K.Keys g.W.Channel c.args.lent.now) { deeds = g.I.Journal.deeds c.args.journal.now } in
    let status = c.keep_brought-status in
    let after : Outside = record (seen_of g.F.Files g.J.Journals g.D.Door g.K.Keys g.W.Channel status.new.lent) { deeds = g.I.Journal.deeds status.new.journal } in
    begun_told _ c.args.kept.served.checked.typed.service c.in-Ok.brought.server.world.service c.args.kept.served.formats c.in-Ok.brought.server.formats
    c.args.name.now c.args.kept.text.items c.deref.result.now c.deref-in-Ok.result.now (IsTask g.F.File.Channel.left c.args.task) o after
    (g.F.Files.unread c.bring_back.new.files) c.bring_back.new.steps c.in-Ok.brought.server.world c.in-Ok.brought.found status.result
    c.in-Ok.ensures.service c.in-Ok.ensures.formats c.deref.ensures.value c.deref-in-Ok.ensures.value c.in-Ok.ensures.found
    (λ ruled content x is p f. status.ensures.keeps ruled content x is p f)

pub returns-in-Err-clause-read_fault : goal.returns-in-Err-clause-read_fault
returns-in-Err-clause-read_fault g c =
    reported_read c.bring_back.result c.in-Err.stop c.report.result _ _ _ c.in-Err.is c.bring_back.ensures.read_fault c.report.ensures.read
    c.report.ensures.reads c.close_task.ensures.quiet
