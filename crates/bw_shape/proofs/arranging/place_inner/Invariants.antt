use Rattle.std.proofs.Common.{length}
use Rattle.bw_shape.specs.Reach.{Placed}
use Rattle.bw_shape.proofs.arranging.place_inner.Given as goal

abbrev pub invariant-loop-left : goal.invariant-loop-left
invariant-loop-left l = Placed (length l.nodes) l.placed l.back.items

abbrev pub decreases-loop-left : goal.decreases-loop-left
decreases-loop-left l = l.left
