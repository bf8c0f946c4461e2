use Rattle.std.proofs.Common.{List, ℕ, Some, ◌≡◌, refl}
use Rattle.bw_questions.specs.Asked.{Ruled}
use Rattle.bigwig.specs.Asked.{resumed}
use Rattle.bw_questions.specs.Checks.{IsRuled}
use Rattle.bigwig.specs.Finding.{IsTask}
use Rattle.bigwig.specs.Lent.{seen_of}
use Rattle.bigwig.specs.Outcomes.{Comes}
use Rattle.bigwig.specs.Outcomes.Comes.{read_fault}
use Rattle.bigwig.specs.Works.{Outside}
use Rattle.bigwig.specs.declared.keeping.Task.TheVariants.{Stream}
use Rattle.bw_command.specs.declared.status.Status.TheVariants.{ReadFault}
use Rattle.bigwig.proofs.Beside.{told_all}
use Rattle.bigwig.proofs.Resumed.{file_absent, file_resumed}
use Rattle.bigwig.proofs.resuming.resume_service.Goals as goal

pub returns-in-Err-clause-comes : goal.returns-in-Err-clause-comes
returns-in-Err-clause-comes g c =
    let o : Outside = seen_of g.F.Files g.J.Journals g.D.Door g.K.Keys g.W.Channel c.args.lent.now in
    let after : Outside = record o { unread = g.F.Files.unread c.fetch.new.self } in
    told_all _ (λ disk. (ruled : Ruled) (name : List ℕ) → IsRuled c.args.kept.served.checked.typed.service c.args.kept.served.formats ruled
    → disk name ≡ Some c.args.kept.text.items
    → Comes (resumed disk name c.args.resumed.requests.now c.args.resumed.journal.now c.args.resumed.most ruled) o after ReadFault)
    (λ disk ruled name is there. read_fault refl refl)

pub returns-in-Ok-None-clause-comes : goal.returns-in-Ok-None-clause-comes
returns-in-Ok-None-clause-comes g c =
    file_absent g.F.File.Channel.left _ c.args.resumed.requests.now c.args.resumed.journal.now c.args.kept.text.items c.as_str-name.result.now
    c.in-Ok-None.field-0 c.no_file.result c.args.kept.served.checked.typed.service c.args.kept.served.formats c.args.resumed.most
    (seen_of g.F.Files g.J.Journals g.D.Door g.K.Keys g.W.Channel c.args.lent.now) (g.W.Channel.held c.report.new.out)
    (g.F.Files.unread c.fetch.new.self) c.report.result c.in-Ok-None.field-0-is c.in-Ok-None.ensures.found c.as_str-name.ensures.text c.no_file.ensures
    c.report.ensures.reported

pub returns-in-Ok-Some-clause-comes : goal.returns-in-Ok-Some-clause-comes
returns-in-Ok-Some-clause-comes g c =
    file_resumed g.F.File.Channel.left _ _ c.args.resumed.requests.now c.args.resumed.journal.now c.as_str.result.now c.args.kept.text.items
    c.as_str-name.result.now c.in-Ok-Some.field-0 c.in-Ok-Some.file c.args.kept.served.checked.typed.service c.args.kept.served.formats
    c.args.resumed.most (IsTask g.F.File.Channel.left (Stream (record { file = c.in-Ok-Some.file; most = c.args.resumed.most })))
    (seen_of g.F.Files g.J.Journals g.D.Door g.K.Keys g.W.Channel c.args.lent.now) (g.F.Files.unread c.fetch.new.self)
    (seen_of g.F.Files g.J.Journals g.D.Door g.K.Keys g.W.Channel c.keep_service.new.lent)
    c.keep_service.result c.in-Ok-Some.field-0-is c.in-Ok-Some.ensures.found c.in-Ok-Some.ensures.same c.as_str-name.ensures.text c.as_str.ensures.text
    (λ stream has. (stream, has, refl)) c.keep_service.ensures.keeps
