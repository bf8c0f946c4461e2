use Rattle.std.proofs.Common.{codes}
use Rattle.bigwig.specs.Asked.{work}
use Rattle.bw_questions.specs.Asked.Work.{prints}
use Rattle.bw_questions.specs.Questions.{IsStop, line}
use Rattle.bw_command.specs.declared.command.Command.TheVariants.{Valid}
use Rattle.bw_questions.proofs.Answering.{by_name}
use Rattle.bigwig.proofs.Endings.{stopped_speaks, text_speaks}
use Rattle.bigwig.proofs.saying.valid_command.Goals as goal

pub returns-in-Ok-clause-comes : goal.returns-in-Ok-clause-comes
returns-in-Ok-clause-comes g c =
    text_speaks _ (λ disk. work disk (Valid c.args.page.now c.args.schema.now)) (line (codes "valid")) _ _ _
    (by_name _ (λ disk name. (work disk (Valid name c.args.schema.now)).gives
    (prints (line (codes "valid")))) _ _ c.as_str.ensures.text c.in-Ok.ensures.answers) c.print_line.ensures.prints

pub returns-in-Err-clause-comes : goal.returns-in-Err-clause-comes
returns-in-Err-clause-comes g c =
    stopped_speaks _ (λ disk. work disk (Valid c.args.page.now c.args.schema.now)) c.in-Err.stop _ _ _
    (by_name _ (λ disk name.
    IsStop (work disk (Valid name c.args.schema.now)) c.in-Err.stop) _ _ c.as_str.ensures.text c.in-Err.ensures.answers) c.report.ensures.reported
