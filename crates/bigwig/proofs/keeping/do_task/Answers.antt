use Rattle.std.proofs.Common.{◌≡◌, ℕ, Option, ap, subst, sym}
use Rattle.bw_questions.specs.Asked.Task.{to_serve}
use Rattle.bigwig.specs.Finding.{IsRead, IsTask, rotate_in}
use Rattle.bigwig.specs.Keeping.{IsKept}
use Rattle.bigwig.specs.Lent.{seen_of}
use Rattle.bigwig.specs.Works.{Outside}
use Rattle.bigwig.proofs.keeping.do_task.Goals as goal

pub returns-in-Links-clause-keeps : goal.returns-in-Links-clause-keeps
returns-in-Links-clause-keeps g c ruled text content x is p read =
    let o : Outside = record (seen_of g.F.Files g.J.Journals g.D.Door g.K.Keys g.W.Channel c.args.lent.now) { deeds = g.I.Journal.deeds c.args.journal.now } in
    let served = c.serve_beside in
    let after : Outside = record (seen_of g.F.Files g.J.Journals g.D.Door g.K.Keys g.W.Channel served.new.lent) { deeds = g.I.Journal.deeds served.new.journal } in
    let place = c.in-Links.place in
    let same : x ≡ to_serve place.port place.most place.rotate = subst (λ t. IsTask g.F.File.Channel.left t x) c.in-Links.is p in
    subst (λ t. IsKept ruled text content t o after served.result) (sym same)
    (served.ensures.keeps ruled text content is
    (subst (λ (r : Option ℕ). IsRead ruled text content r c.args.server.now.world c.args.opening) (ap (λ t. rotate_in t) c.in-Links.is) read))

pub returns-in-Stream-clause-keeps : goal.returns-in-Stream-clause-keeps
returns-in-Stream-clause-keeps g c ruled text content x is p read =
    let o : Outside = record (seen_of g.F.Files g.J.Journals g.D.Door g.K.Keys g.W.Channel c.args.lent.now) { deeds = g.I.Journal.deeds c.args.journal.now } in
    let answered = c.resume_beside in
    let after : Outside = record (seen_of g.F.Files g.J.Journals g.D.Door g.K.Keys g.W.Channel answered.new.lent) {
      deeds = g.I.Journal.deeds answered.new.journal;
    } in
    let t = subst (λ y. IsTask g.F.File.Channel.left y x) c.in-Stream.is p in
    subst (λ y. IsKept ruled text content y o after answered.result) (sym t.2)
    (answered.ensures.keeps ruled text content t.0 is
    (subst (λ (r : Option ℕ). IsRead ruled text content r c.args.server.now.world c.args.opening) (ap (λ t. rotate_in t) c.in-Stream.is) read) t.1)
