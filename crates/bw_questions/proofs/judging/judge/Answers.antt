use Rattle.std.proofs.Common.{refl}
use Rattle.bw_questions.proofs.Pages.{not_valid}
use Rattle.bw_questions.proofs.judging.judge.Goals as goal

pub returns-in-Ok-clause-answers : goal.returns-in-Ok-clause-answers
returns-in-Ok-clause-answers c = (c.in-Ok.ensures.ok, refl)

pub returns-in-Err-clause-answers : goal.returns-in-Err-clause-answers
returns-in-Err-clause-answers c =
    not_valid c.args.tree.now.items c.args.schema.now c.in-Err.breach c.breach_line.result c.refused.result c.refused.ensures.line c.refused.ensures.memory
    c.breach_line.ensures c.in-Err.ensures.err
