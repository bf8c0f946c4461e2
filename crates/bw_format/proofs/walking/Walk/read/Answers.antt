use Rattle.std.proofs.Common.{◌∙◌, ap, sym, map, drop, ◌+◌}
use Rattle.bw_format.specs.Steps.{op, run}
use Rattle.bw_format.proofs.StepRuns.{step_taken, all_taken}
use Rattle.bw_format.proofs.walking.Walk.read.Goals as goal

pub loop-step-preserved : goal.loop-step-preserved
loop-step-preserved c =
    ap (λ w. run c.args.c (map op (drop (c.loop-step.step-index + 1) c.args.steps.now)) w) c.step.ensures
    ∙ sym (step_taken c.args.c c.args.steps.now c.loop-step.step-index c.step-item.result c.loop-step.self c.loop-step-test.true c.step-item.is)
    ∙ c.loop-step.invariant

pub returns-clause-walk : goal.returns-clause-walk
returns-clause-walk c =
    sym (all_taken c.args.c c.args.steps.now c.loop-step.step-index c.loop-step.self c.loop-step-test.false) ∙ c.loop-step.invariant
