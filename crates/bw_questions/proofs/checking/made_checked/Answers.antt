use Rattle.std.proofs.Common.{[], None, Err, subst}
use Rattle.bw_questions.specs.Asked.{accepted_text, service_text, built_in, checked}
use Rattle.bw_questions.specs.Checks.{ruled_by}
use Rattle.bw_questions.specs.Questions.{◌>>=◌, IsAnswer}
use Rattle.bw_questions.proofs.Answering.{asks_next, stops_first}
use Rattle.bw_questions.proofs.Stops.{stops_handed}
use Rattle.bw_questions.proofs.checking.made_checked.Goals as goal

pub returns-in_err-read-clause-answers : goal.returns-in_err-read-clause-answers
returns-in_err-read-clause-answers g c =
    stops_handed ruled_by (accepted_text c.args.text.now) c.from_residual.result _ c.from_residual.ensures.1
    (stops_first (service_text None c.args.text.now) (λ tree. built_in >>= (λ by. checked None tree by [])) _ c.in_err-read.ensures.answers)

pub returns-in-Err-clause-answers : goal.returns-in-Err-clause-answers
returns-in-Err-clause-answers g c =
    asks_next ruled_by (service_text None c.args.text.now) (λ tree. built_in >>= (λ by. checked None tree by [])) c.in_ok-read.read.typed.service (Err _)
    c.in_ok-read.ensures.answers (stops_first built_in (λ by. checked None c.in_ok-read.read.typed.service by []) _ c.in-Err.ensures.answers)

pub returns-in-Ok-clause-answers : goal.returns-in-Ok-clause-answers
returns-in-Ok-clause-answers g c =
    asks_next ruled_by (service_text None c.args.text.now) (λ tree. built_in >>= (λ by. checked None tree by [])) c.in_ok-read.read.typed.service c.checked.result
    c.in_ok-read.ensures.answers (asks_next ruled_by built_in (λ by. checked None c.in_ok-read.read.typed.service by []) c.in-Ok.schema c.checked.result
    c.in-Ok.ensures.answers
    (subst (λ f. IsAnswer ruled_by (checked None c.in_ok-read.read.typed.service c.in-Ok.schema f) c.checked.result) c.none.ensures c.checked.ensures.answers))
