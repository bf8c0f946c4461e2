use Rattle.std.proofs.Common.{take}
use Rattle.bw_lang.specs.Document.View.{forest}
use Rattle.bw_shape.specs.Rows.Rows.{at}
use Rattle.bw_shape.specs.Rows.Changes.{Clears}
use Rattle.bw_shape.specs.Tests.{lacks}
use Rattle.bw_shape.proofs.fields.+lack.Given as goal

abbrev pub decreases-items_lack : goal.decreases-items_lack
decreases-items_lack l = goal.size-items_lack l

abbrev pub decreases-item_lacks : goal.decreases-item_lacks
decreases-item_lacks l = goal.size-item_lacks l

abbrev pub invariant-items_lack-loop-item : goal.invariant-items_lack-loop-item
invariant-items_lack-loop-item l = Clears l.initial.row l.row (λ f. lacks l.names l.node (λ m. at l.known m f) f (forest (take l.item-index l.item-items)))
