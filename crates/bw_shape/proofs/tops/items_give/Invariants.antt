use Rattle.std.proofs.Common.{take}
use Rattle.bw_lang.specs.Document.View.{forest}
use Rattle.bw_shape.specs.Rows.Rows.{at}
use Rattle.bw_shape.specs.Rows.Changes.{Sets}
use Rattle.bw_shape.specs.Tests.{gives}
use Rattle.bw_shape.proofs.tops.items_give.Given as goal

abbrev pub invariant-loop-item : goal.invariant-loop-item
invariant-loop-item l = Sets l.initial.row l.row (λ c. gives l.tags l.node (λ m. at l.known m c) c (forest (take l.item-index l.item-items)))
