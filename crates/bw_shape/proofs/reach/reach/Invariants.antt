use Rattle.std.proofs.Common.{◌-◌, length}
use Rattle.bw_shape.specs.Reach.{Reaching}
use Rattle.bw_shape.proofs.reach.reach.Given as goal

abbrev pub invariant-loop-next : goal.invariant-loop-next
invariant-loop-next l = Reaching l.nodes l.root l.seen l.order.items l.next

abbrev pub decreases-loop-next : goal.decreases-loop-next
decreases-loop-next l = length l.nodes - l.next
