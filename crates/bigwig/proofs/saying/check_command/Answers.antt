use Rattle.std.proofs.Common.{codes}
use Rattle.bigwig.specs.Asked.{work}
use Rattle.bw_questions.specs.Questions.{line}
use Rattle.bw_command.specs.declared.command.Command.TheVariants.{Check}
use Rattle.bigwig.proofs.Endings.{stopped_speaks, text_speaks}
use Rattle.bigwig.proofs.saying.check_command.Goals as goal

pub returns-in-Ok-clause-comes : goal.returns-in-Ok-clause-comes
returns-in-Ok-clause-comes g c =
    text_speaks _ (λ disk. work disk (Check c.args.service.now c.args.judging.now c.args.explain)) (line (codes "accepted")) _ _ _ c.in-Ok.ensures.answers
    c.print_line.ensures.prints

pub returns-in-Err-clause-comes : goal.returns-in-Err-clause-comes
returns-in-Err-clause-comes g c =
    stopped_speaks _ (λ disk. work disk (Check c.args.service.now c.args.judging.now c.args.explain)) c.in-Err.stop _ _ _ c.in-Err.ensures.answers
    c.report.ensures.reported
