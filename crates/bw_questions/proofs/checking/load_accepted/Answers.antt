use Rattle.std.proofs.Common.{refl, None}
use Rattle.bw_questions.specs.Asked.{accepted_file, accepted}
use Rattle.bw_questions.specs.Checks.{ruled_by}
use Rattle.bw_questions.proofs.Answering.{told_first}
use Rattle.bw_questions.proofs.Checks.{accepted_said}
use Rattle.bw_questions.proofs.checking.load_accepted.Goals as goal

pub returns-in-Ok-clause-answers : goal.returns-in-Ok-clause-answers
returns-in-Ok-clause-answers g c =
    accepted_said _ c.args.service.now c.args.judging.now None (ruled_by c.in-Ok.served) _ refl c.in-Ok.ensures.answers

pub returns-in-Err-clause-answers : goal.returns-in-Err-clause-answers
returns-in-Err-clause-answers g c =
    told_first _ (λ disk. accepted_file disk c.args.service.now c.args.judging.now None) (λ disk. accepted) c.in-Err.stop c.in-Err.ensures.answers
