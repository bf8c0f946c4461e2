use Rattle.std.proofs.Common.{Vec, Global, ℕ, length, ap, sym, ◌∙◌}
use Rattle.bw_questions.specs.Asked.{made_work}
use Rattle.bw_questions.specs.Asked.Work.{prints}
use Rattle.bw_questions.specs.Checks.{ruled_by}
use Rattle.bigwig.proofs.Sending.{made_gives, made_stops}
use Rattle.bw_questions.proofs.Stops.{stops_handed}
use Rattle.bigwig.proofs.making.made_text.Goals as goal

pub returns-in_err-served-clause-answers : goal.returns-in_err-served-clause-answers
returns-in_err-served-clause-answers g c =
    stops_handed (λ (v : Vec ℕ Global). prints v.items) (made_work c.args.count) c.from_residual.result _ c.from_residual.ensures.1
    (made_stops c.args.count _ _ (c.as_bytes.ensures ∙ c.in-Ok.ensures) c.in_err-served.ensures.answers)

pub returns-in-Ok-turns-clause-answers : goal.returns-in-Ok-turns-clause-answers
returns-in-Ok-turns-clause-answers g c =
    made_gives c.args.count _ _ c.len.result (ruled_by c.in_ok-served.served) (c.as_bytes.ensures ∙ c.in-Ok.ensures)
    (c.len.ensures ∙ ap length (sym c.as_bytes.ensures)) c.in_ok-served.ensures.answers c.in-Ok-turns.ensures
