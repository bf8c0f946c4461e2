use Rattle.std.proofs.Common.{take}
use Rattle.bw_lang.specs.Document.View.{forest}
use Rattle.bw_lang.specs.Table.Names.{Extends}
use Rattle.bw_shape.specs.Columns.{AreKnown}
use Rattle.bw_shape.proofs.tables.+tags.Given as goal

abbrev pub invariant-take_tags-loop-item : goal.invariant-take_tags-loop-item
invariant-take_tags-loop-item l = Extends l.initial.tags l.tags × AreKnown l.tags (forest (take l.item-index l.item-items))

abbrev pub decreases-take_tag : goal.decreases-take_tag
decreases-take_tag l = goal.size-take_tag l

abbrev pub decreases-take_tags : goal.decreases-take_tags
decreases-take_tags l = goal.size-take_tags l
