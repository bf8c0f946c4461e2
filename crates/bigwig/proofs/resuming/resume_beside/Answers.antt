use Rattle.std.proofs.Common.{refl, ap, ◌∙◌}
use Rattle.bw_questions.specs.Asked.Task.{to_answer}
use Rattle.bigwig.specs.Lent.{seen_of}
use Rattle.bigwig.specs.Works.{Outside}
use Rattle.bigwig.proofs.Beside.{begun_kept}
use Rattle.bigwig.proofs.HalfBegun.{answers_not_saves, half_kept}
use Rattle.bigwig.proofs.Resumed.{stream_resumed}
use Rattle.bigwig.proofs.resuming.resume_beside.Goals as goal

pub returns-in-Err-clause-keeps : goal.returns-in-Err-clause-keeps
returns-in-Err-clause-keeps g c ruled text content bytes is read has =
    half_kept ruled text content (to_answer bytes c.args.stream.most) c.args.server.now.world c.args.opening
    (record (seen_of g.F.Files g.J.Journals g.D.Door g.K.Keys g.W.Channel c.args.lent.now) { deeds = g.I.Journal.deeds c.args.journal.now }) _
    c.tell_fault.result (answers_not_saves bytes c.args.stream.most) read c.requires.none c.in-Err.ensures.failed
    (record { prints = c.tell_fault.ensures.prints; kept = refl })

pub returns-in-Ok-began-clause-keeps : goal.returns-in-Ok-began-clause-keeps
returns-in-Ok-began-clause-keeps g c ruled text content bytes is read has =
    let o : Outside = record (seen_of g.F.Files g.J.Journals g.D.Door g.K.Keys g.W.Channel c.args.lent.now) { deeds = g.I.Journal.deeds c.args.journal.now } in
    let mid : Outside = record o { deeds = g.I.Journal.deeds c.begin-began.new.journal } in
    let answered = c.answer_requests-status in
    let after : Outside = record (seen_of g.F.Files g.J.Journals g.D.Door g.K.Keys g.W.Channel answered.new.lent) {
      deeds = g.I.Journal.deeds answered.new.journal;
      unread = g.F.Files.unread c.close.new.self;
    } in
    let s = answered.ensures.streams in
    let door = answered.ensures.kept.2 in
    begun_kept ruled text content (to_answer bytes c.args.stream.most) c.in-Ok.room.group.sum c.args.server.now.world c.args.opening o mid after
    answered.result read (c.in-Ok.ensures.sum ∙ c.sum.ensures) c.requires.none c.in-Ok-began.ensures.begun refl
    (λ m stands fit. stream_resumed ruled m c.args.server.now.world answered.new.server.world c.args.server.now.formats bytes c.in-Ok.room.intake
    answered.new.room.intake c.args.stream.most c.in-Ok.room.group.sum answered.new.room.group.sum mid after (g.F.File.Channel.left c.args.stream.file)
    (g.F.File.Channel.left answered.new.stream.file) s.1 s.0 answered.result is stands fit c.in-Ok.ensures.none has c.close.ensures.unread s.2 s.3
    answered.ensures.pages (ap (λ d. g.D.Door.asked d) door) (ap (λ d. g.D.Door.coming d) door) (ap (λ d. g.D.Door.returned d) door))
