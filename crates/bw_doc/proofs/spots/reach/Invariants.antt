use Rattle.std.proofs.Common.{◌+◌, ◌-◌, length}
use Rattle.bw_doc.specs.Spots.{at, IsTableOf}
use Rattle.bw_doc.proofs.spots.reach.Given as goal

abbrev pub invariant-loop-list : goal.invariant-loop-list
invariant-loop-list l = IsTableOf (at l.initial.list.items) l.list.items

abbrev pub decreases-loop-list : goal.decreases-loop-list
decreases-loop-list l = l.gap + 1 - length l.list.items
