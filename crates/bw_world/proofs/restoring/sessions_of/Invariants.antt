use Rattle.std.proofs.Common.{length}
use Rattle.bw_world.proofs.Restored.{Emptied}
use Rattle.bw_world.proofs.restoring.sessions_of.Given as goal

abbrev pub invariant-loop-one : goal.invariant-loop-one
invariant-loop-one l = Emptied l.left.entries l.list l.fn.cache.entries

abbrev pub decreases-loop-one : goal.decreases-loop-one
decreases-loop-one l = length l.left.entries
