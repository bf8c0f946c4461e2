use Rattle.std.proofs.Common.{refl}
use Rattle.bw_questions.specs.Asked.Task.{to_serve}
use Rattle.bigwig.specs.Lent.{seen_of}
use Rattle.bigwig.proofs.Beside.{begun_kept}
use Rattle.bigwig.proofs.HalfBegun.{half_kept, serves_not_saves}
use Rattle.bigwig.proofs.beginning.keep_begun.Goals as goal

pub returns-in-Ok-clause-keeps : goal.returns-in-Ok-clause-keeps
returns-in-Ok-clause-keeps g c ruled text content is read =
    begun_kept ruled text content (to_serve c.args.place.port c.args.place.most c.args.place.rotate) c.args.room.now.group.sum c.args.server.now.world
    c.args.opening.now
    (record (seen_of g.F.Files g.J.Journals g.D.Door g.K.Keys g.W.Channel c.args.lent.now) { deeds = g.I.Journal.deeds c.args.journal.now })
    (record (seen_of g.F.Files g.J.Journals g.D.Door g.K.Keys g.W.Channel c.args.lent.now) { deeds = g.I.Journal.deeds c.begin.new.journal })
    (record (seen_of g.F.Files g.J.Journals g.D.Door g.K.Keys g.W.Channel c.keep_port.new.lent) { deeds = g.I.Journal.deeds c.keep_port.new.journal })
    c.keep_port.result read c.requires.sum c.requires.none c.in-Ok.ensures.begun refl (λ m stands fit. c.keep_port.ensures.serves ruled m is stands fit)

pub returns-in-Err-clause-keeps : goal.returns-in-Err-clause-keeps
returns-in-Err-clause-keeps g c ruled text content is read =
    half_kept ruled text content (to_serve c.args.place.port c.args.place.most c.args.place.rotate) c.args.server.now.world c.args.opening.now
    (record (seen_of g.F.Files g.J.Journals g.D.Door g.K.Keys g.W.Channel c.args.lent.now) { deeds = g.I.Journal.deeds c.args.journal.now }) _
    c.tell_fault.result (serves_not_saves c.args.place.port c.args.place.most c.args.place.rotate) read c.requires.none c.in-Err.ensures.failed
    (record { prints = c.tell_fault.ensures.prints; kept = refl })
