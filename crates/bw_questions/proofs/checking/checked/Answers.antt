use Rattle.std.proofs.Common.{◌≡◌, ◌∙◌, subst}
use Rattle.bw_questions.specs.Behind.{shown_of, behind_marks}
use Rattle.bw_questions.specs.Checks.{ruled_by}
use Rattle.bw_questions.specs.Reports.{SaysWhy}
use Rattle.bw_questions.proofs.Checks.{refused_why}
use Rattle.bw_questions.proofs.checking.checked.Goals as goal

pub returns-in-Ok-check-clause-answers : goal.returns-in-Ok-check-clause-answers
returns-in-Ok-check-clause-answers g c =
    let kept = c.in-Ok-check.ensures.kept in
    let same : ruled_by (record { checked = c.in-Ok-check.checked; formats = c.args.formats })
    ≡ record { service = c.args.typed.service; schema = c.args.schema; formats = c.args.formats } =
    λ i. record { service = (kept.0 i).service; schema = kept.1 i; formats = c.args.formats } in
    (same, c.in-Ok-check.ensures.accepted)

pub returns-clause-answers : goal.returns-clause-answers
returns-clause-answers g c =
    refused_why (shown_of c.args.how) c.args.typed.service c.args.schema c.args.formats c.in-Ok-sight_if.sight _ c.in-Err.fault c.check_stop.result
    (c.as_slice.ensures ∙ c.in-Ok.ensures)
    c.in-Ok-sight_if.ensures.marked
    (subst (λ how. SaysWhy how (behind_marks c.in-Ok-sight_if.sight) c.as_slice.result.now c.in-Err.fault c.check_stop.result) c.in-Ok-sight_if.ensures.shown
    c.check_stop.ensures)
    c.in-Err.ensures.fault
