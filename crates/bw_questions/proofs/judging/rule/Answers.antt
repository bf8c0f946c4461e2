use Rattle.std.proofs.Common.{refl}
use Rattle.bw_questions.specs.Asked.{schema, judged}
use Rattle.bw_questions.proofs.Answering.{told_first, told_next}
use Rattle.bw_questions.proofs.Pages.{if_told}
use Rattle.bw_questions.proofs.judging.rule.Goals as goal

pub returns-in-Ok-clause-answers : goal.returns-in-Ok-clause-answers
returns-in-Ok-clause-answers g c =
    told_next _ _ _ (λ disk. schema disk c.args.named.now) (λ disk. judged c.args.tree.now.items) c.in-Ok.schema _ refl c.in-Ok.ensures.answers
    (if_told _ c.judge-judged.ensures.answers)

pub returns-in-Err-clause-answers : goal.returns-in-Err-clause-answers
returns-in-Err-clause-answers g c = told_first _ (λ disk. schema disk c.args.named.now)
    (λ disk. judged c.args.tree.now.items) c.in-Err.stop c.in-Err.ensures.answers
