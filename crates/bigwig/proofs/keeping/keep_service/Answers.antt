use Rattle.std.proofs.Common.{◌∙◌, ap, inl, refl}
use Rattle.bw_questions.specs.Asked.{Ruled, Task}
use Rattle.bw_questions.specs.Behind.{content_of}
use Rattle.bw_questions.specs.Checks.{IsRuled}
use Rattle.bigwig.specs.Finding.{IsTask}
use Rattle.bigwig.specs.Keeping.{IsKept}
use Rattle.bigwig.specs.Keeping.IsKept.{failed}
use Rattle.bigwig.specs.Lent.{seen_of}
use Rattle.bigwig.specs.Works.{Outside}
use Rattle.bigwig.proofs.Beside.{closed_told, journal_shows, told_all}
use Rattle.bigwig.proofs.Causes.{fault_causes}
use Rattle.bigwig.proofs.HalfBegun.{task_is_no_save}
use Rattle.bigwig.proofs.keeping.keep_service.Goals as goal

pub returns-in-Err-clause-keeps : goal.returns-in-Err-clause-keeps
returns-in-Err-clause-keeps g c =
    let o : Outside = seen_of g.F.Files g.J.Journals g.D.Door g.K.Keys g.W.Channel c.args.lent.now in
    let after : Outside = record o {
      printed = g.W.Channel.held c.tell_fault.new.out;
      unread = g.F.Files.unread c.close_task.new.files;
      deeds = g.J.Journals.deeds c.open_journal.new.self;
    } in
    told_all _ (λ disk. (ruled : Ruled) (x : Task) → IsRuled c.args.kept.served.checked.typed.service c.args.kept.served.formats ruled
    → IsTask g.F.File.Channel.left c.args.task x
    → IsKept ruled c.args.kept.text.items (content_of (disk c.args.name.now)) x o after c.tell_fault.result)
    (λ disk ruled x is t. failed (task_is_no_save g.F.File.Channel.left c.args.task x t) (record { prints = c.tell_fault.ensures.prints; kept = refl }) (inl c.in-Err.ensures.deeds))

pub returns-in-Ok-clause-keeps : goal.returns-in-Ok-clause-keeps
returns-in-Ok-clause-keeps g c =
    closed_told _ c.args.kept.served.checked.typed.service c.args.kept.served.formats c.args.name.now c.args.kept.text.items
    (IsTask g.F.File.Channel.left c.args.task) (seen_of g.F.Files g.J.Journals g.D.Door g.K.Keys g.W.Channel c.args.lent.now)
    (record (seen_of g.F.Files g.J.Journals g.D.Door g.K.Keys g.W.Channel c.keep_beside-status.new.lent) {
      deeds = g.J.Journals.deeds c.close_journal.new.self;
    })
    _ _ c.keep_beside-status.result c.in-Ok.ensures.fresh c.close_journal.ensures.deeds c.keep_beside-status.ensures.keeps

pub returns-in-Err-clause-causes : goal.returns-in-Err-clause-causes
returns-in-Err-clause-causes g c =
    fault_causes c.tell_fault.result _ _ _ _ _ _ _ c.tell_fault.ensures.status c.close_task.ensures.quiet c.tell_fault.ensures.write_fault
    c.in-Err.ensures.cause.failed

pub returns-in-Ok-clause-causes : goal.returns-in-Ok-clause-causes
returns-in-Ok-clause-causes g c =
    let status = c.keep_beside-status in
    let faults = g.J.Journals.faults in
    record {
      read = status.ensures.read_fault;
      write = status.ensures.write_fault;
      door = status.ensures.door_fault;
      journal = journal_shows status.result (g.J.Journal.Journal.faults c.in-Ok.journal) (g.J.Journal.Journal.faults status.new.journal)
          (faults c.args.lent.now.journals.now) (faults status.new.lent.journals.now) (faults c.close_journal.new.self) c.in-Ok.ensures.quiet
          status.ensures.journal_fault (ap (λ j. faults j) status.ensures.journals ∙ c.in-Ok.ensures.cause.quiet) c.close_journal.ensures.failed
          c.close_journal.ensures.quiet;
    }
