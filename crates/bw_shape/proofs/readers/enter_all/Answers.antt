use Rattle.bw_shape.proofs.Rows.Waking.{entered_more}
use Rattle.bw_shape.proofs.readers.enter_all.Goals as goal

pub loop-link-preserved : goal.loop-link-preserved
loop-link-preserved c = entered_more c.loop-link-test.true c.link-item.is c.loop-link.invariant c.in_ok-enter.ensures
