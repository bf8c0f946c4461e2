use Rattle.bw_judge.specs.Found as found
use Rattle.bw_faults.proofs.Adding.{adds_more}
use Rattle.bw_judge.proofs.attributes.judge_must.Goals as goal

pub loop-name-preserved : goal.loop-name-preserved
loop-name-preserved c =
    adds_more (found.OfMust c.args.scene.now c.args.spot c.args.attrs.now)
    c.as_slice-name-items.result.now c.loop-name.name-index c.name-item.result c.args.faults.now c.loop-name.faults c.judge_name.new.faults
    c.name-item.is c.loop-name-test.true c.loop-name.invariant c.in_ok-judge_name.ensures
