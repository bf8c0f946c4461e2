use Rattle.std.proofs.Common.{take}
use Rattle.bw_lang.specs.Document.View.{forest}
use Rattle.bw_shape.proofs.Walks.{Crossed}
use Rattle.bw_shape.proofs.cross.items_cross.Given as goal

abbrev pub invariant-loop-item : goal.invariant-loop-item
invariant-loop-item l = Crossed l.tags l.node l.tops l.known l.pairs l.seen l.initial.row l.row (forest (take l.item-index l.item-items))
