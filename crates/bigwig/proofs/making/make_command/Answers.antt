use Rattle.std.proofs.Common.{sym, subst}
use Rattle.bw_questions.specs.Asked.{made_work}
use Rattle.bw_questions.specs.Asked.Work.{prints}
use Rattle.bigwig.proofs.Endings.{stopped_so, text_so}
use Rattle.bigwig.proofs.making.make_command.Goals as goal

pub returns-in-Ok-clause-comes : goal.returns-in-Ok-clause-comes
returns-in-Ok-clause-comes g c =
    text_so (made_work c.args.count) c.deref.result.now _ _ _
    (subst (λ t. (made_work c.args.count).gives (prints t)) (sym c.deref.ensures.value) c.in-Ok.ensures.answers) c.print_text.ensures.prints

pub returns-in-Err-clause-comes : goal.returns-in-Err-clause-comes
returns-in-Err-clause-comes g c = stopped_so (made_work c.args.count) c.in-Err.stop _ _ _ c.in-Err.ensures.answers c.report.ensures.reported
