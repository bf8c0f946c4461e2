use Rattle.bw_questions.specs.Asked.{formats, checked}
use Rattle.bw_questions.specs.Behind.{shown_of}
use Rattle.bw_questions.specs.Checks.{ruled_by}
use Rattle.bw_questions.proofs.Answering.{told_first, told_next}
use Rattle.bw_questions.proofs.Pages.{if_told}
use Rattle.bw_questions.proofs.checking.checked_with.Goals as goal

pub returns-in-Ok-clause-answers : goal.returns-in-Ok-clause-answers
returns-in-Ok-clause-answers g c =
    told_next ruled_by _ _ (λ disk. formats disk c.args.named.formats.now) (λ disk. checked (shown_of c.args.how) c.args.typed.service c.args.schema) c.in-Ok.formats c.checked.result
    c.in-Ok.ensures.told c.in-Ok.ensures.answers (if_told _ c.checked.ensures.answers)

pub returns-in-Err-clause-answers : goal.returns-in-Err-clause-answers
returns-in-Err-clause-answers g c =
    told_first _ (λ disk. formats disk c.args.named.formats.now) (λ disk. checked (shown_of c.args.how) c.args.typed.service c.args.schema) c.in-Err.stop c.in-Err.ensures.answers
