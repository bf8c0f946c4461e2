use Rattle.std.proofs.Common.{◌≡◌, ◌++◌, length}
use Rattle.std.specs.Prelude.{reverse}
use Rattle.bw_world.proofs.restoring.turned_round.Given as goal

abbrev pub invariant-loop-one : goal.invariant-loop-one
invariant-loop-one l = reverse l.left ++ l.list ≡ reverse l.fn.live

abbrev pub decreases-loop-one : goal.decreases-loop-one
decreases-loop-one l = length l.left
