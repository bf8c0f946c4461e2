use Rattle.std.proofs.Common.{◌∙◌, subst}
use Rattle.bw_questions.specs.Behind.{behind_marks, shown_of}
use Rattle.bw_questions.specs.Reports.{SaysWhy}
use Rattle.bw_questions.proofs.Explanations.{limit_said}
use Rattle.bw_questions.proofs.explaining.past_limits.Goals as goal

pub returns-clause-stops : goal.returns-clause-stops
returns-clause-stops c =
    limit_said (shown_of c.args.how) c.args.typed.now.service c.args.schema.now c.in-Ok-sight_if.sight _ c.args.fault.now c.check_stop.result
    (c.as_slice.ensures ∙ c.in-Ok.ensures)
    c.in-Ok-sight_if.ensures.marked
    (subst (λ how. SaysWhy how (behind_marks c.in-Ok-sight_if.sight) c.as_slice.result.now c.args.fault.now c.check_stop.result) c.in-Ok-sight_if.ensures.shown
    c.check_stop.ensures)
    c.requires.fault c.requires.limit
