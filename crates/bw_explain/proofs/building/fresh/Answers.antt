use Rattle.bw_shape.proofs.Filled.{one_more, as_many}
use Rattle.bw_explain.proofs.building.fresh.Goals as goal

pub loop-preserved : goal.loop-preserved
loop-preserved c = one_more _ _ c.in_ok-push.ensures.items c.loop.invariant c.new.ensures

pub returns : goal.returns
returns c = as_many _ _ _ c.loop.invariant c.loop-test.false c.loop.auto.counter-end
