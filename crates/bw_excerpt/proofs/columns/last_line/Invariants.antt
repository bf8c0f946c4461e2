use Rattle.std.proofs.Common.{◌≡◌, ◌≤◌, length, drop}
use Rattle.bw_excerpt.specs.Columns.{feeds}
use Rattle.bw_excerpt.proofs.columns.last_line.Given as goal

abbrev pub invariant-loop-start : goal.invariant-loop-start
invariant-loop-start l = record { within : l.start ≤ length l.bytes; plain : feeds (drop l.start l.bytes) ≡ 0 }

abbrev pub decreases-loop-start : goal.decreases-loop-start
decreases-loop-start l = l.start
