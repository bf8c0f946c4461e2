use Rattle.std.proofs.Common.{take}
use Rattle.bw_lang.specs.Document.View.{forest}
use Rattle.bw_shape.specs.Rows.Changes.{Sets}
use Rattle.bw_shape.specs.Tests.{stands}
use Rattle.bw_shape.proofs.fields.+stand.Given as goal

abbrev pub decreases-items_stand : goal.decreases-items_stand
decreases-items_stand l = goal.size-items_stand l

abbrev pub decreases-item_stands : goal.decreases-item_stands
decreases-item_stands l = goal.size-item_stands l

abbrev pub invariant-items_stand-loop-item : goal.invariant-items_stand-loop-item
invariant-items_stand-loop-item l = Sets l.initial.row l.row (λ f. stands l.names f (forest (take l.item-index l.item-items)))
