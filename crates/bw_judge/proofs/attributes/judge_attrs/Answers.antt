use Rattle.bw_judge.specs.Found as found
use Rattle.bw_faults.proofs.Adding.{adds_more}
use Rattle.bw_judge.proofs.attributes.judge_attrs.Goals as goal

pub loop-attr-preserved : goal.loop-attr-preserved
loop-attr-preserved c =
    adds_more (found.OfAttr c.args.scene.now c.args.rule.now c.args.spot)
    c.as_slice-attr-items.result.now c.loop-attr.attr-index c.attr-item.result c.args.faults.now c.loop-attr.faults c.judge_attr.new.faults
    c.attr-item.is c.loop-attr-test.true c.loop-attr.invariant c.in_ok-judge_attr.ensures
