use Rattle.std.proofs.Common.{length}
use Rattle.bw_world.proofs.Restored.{Filled}
use Rattle.bw_world.proofs.restoring.cache_of.Given as goal

abbrev pub invariant-loop-one : goal.invariant-loop-one
invariant-loop-one l = Filled l.left l.cache l.fn.live

abbrev pub decreases-loop-one : goal.decreases-loop-one
decreases-loop-one l = length l.left
