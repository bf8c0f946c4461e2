use Rattle.std.proofs.Common.{◌≡◌, ◌++◌, map, length}
use Rattle.bw_save.specs.Frozen.{suspended_of}
use Rattle.bw_save.proofs.thawing.suspendeds_of.Given as goal

abbrev pub invariant-loop-one : goal.invariant-loop-one
invariant-loop-one l = map suspended_of l.left ++ l.live ≡ map suspended_of l.fn.records

abbrev pub decreases-loop-one : goal.decreases-loop-one
decreases-loop-one l = length l.left
