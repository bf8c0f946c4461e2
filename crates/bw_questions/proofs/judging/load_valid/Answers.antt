use Rattle.bw_questions.specs.Asked.{page_file, ruled}
use Rattle.bw_questions.proofs.Answering.{told_first, told_next}
use Rattle.bw_questions.proofs.judging.load_valid.Goals as goal

pub returns-in-Ok-clause-answers : goal.returns-in-Ok-clause-answers
returns-in-Ok-clause-answers g c =
    told_next _ _ _ (λ disk. page_file disk c.args.name.now)
    (λ disk. ruled disk c.args.named.now) c.in-Ok.tree.items _ c.in-Ok.ensures.told c.in-Ok.ensures.answers c.rule.ensures.answers

pub returns-in-Err-clause-answers : goal.returns-in-Err-clause-answers
returns-in-Err-clause-answers g c = told_first _ (λ disk. page_file disk c.args.name.now)
    (λ disk. ruled disk c.args.named.now) c.in-Err.stop c.in-Err.ensures.answers
