use Rattle.std.proofs.Common.{◌≡◌, ◌++◌, map, length}
use Rattle.bw_save.specs.Frozen.{record_of}
use Rattle.bw_save.proofs.freezing.records_of.Given as goal

abbrev pub invariant-loop-one : goal.invariant-loop-one
invariant-loop-one l = l.records ++ map record_of l.left ≡ map record_of l.fn.live

abbrev pub decreases-loop-one : goal.decreases-loop-one
decreases-loop-one l = length l.left
