use Rattle.std.proofs.Common.{◌∙◌}
use Rattle.bw_schema.specs.Steps.Judging.{marks_of}
use Rattle.bw_schema.proofs.MarkSets.{judged}
use Rattle.bw_schema.proofs.claims.check.Goals as goal

pub returns : goal.returns
returns c =
    judged c.args.root.now c.args.lines.now c.in_ok-set.set (marks_of c.as_slice.result.now) (marks_of c.as_slice-2.result.now) c.known.result
    (c.as_slice.ensures ∙ c.in_ok-declared.ensures) (c.as_slice-2.ensures ∙ c.in_ok-used.ensures) c.in_ok-set.ensures.0 c.in_ok-set.ensures.1
    c.known.ensures
