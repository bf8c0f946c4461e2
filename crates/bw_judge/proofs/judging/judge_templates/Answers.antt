use Rattle.std.proofs.Common.{get_or}
use Rattle.std.proofs.lemmas.List.{get_or_default}
use Rattle.bw_faults.proofs.Adding.{adds_more}
use Rattle.bw_judge.specs.Pages.{OfOutline}
use Rattle.bw_judge.proofs.judging.judge_templates.Goals as goal

pub loop-n-preserved : goal.loop-n-preserved
loop-n-preserved c =
    let xs = c.args.order.now in
    let i = c.loop-n.n-index in
    let x = get_or xs i 0 in
    adds_more (OfOutline c.args.basis.now.templates.now c.args.basis.now.literals.now c.args.outline.now
    c.args.basis.now.schema.now c.args.point) xs i x c.args.faults.now
    c.loop-n.faults c.judge_template.new.faults (get_or_default xs i 0 x c.loop-n-test.true) c.loop-n-test.true c.loop-n.invariant
    c.in_ok-judge_template.ensures
