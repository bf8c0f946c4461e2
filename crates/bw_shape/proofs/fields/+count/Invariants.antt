use Rattle.std.proofs.Common.{take}
use Rattle.bw_lang.specs.Document.View.{forest}
use Rattle.bw_shape.specs.Rows.Rows.{at}
use Rattle.bw_shape.specs.Rows.Changes.{Rises}
use Rattle.bw_shape.specs.Tests.{places}
use Rattle.bw_shape.proofs.fields.+count.Given as goal

abbrev pub decreases-items_count : goal.decreases-items_count
decreases-items_count l = goal.size-items_count l

abbrev pub decreases-item_counts : goal.decreases-item_counts
decreases-item_counts l = goal.size-item_counts l

abbrev pub invariant-items_count-loop-item : goal.invariant-items_count-loop-item
invariant-items_count-loop-item l = Rises l.initial.tally l.tally (λ f. places l.names l.node (λ m. at l.have m f) f (forest (take l.item-index l.item-items)))
