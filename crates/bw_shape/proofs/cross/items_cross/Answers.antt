use Rattle.std.proofs.Common.{take, sym, subst}
use Rattle.bw_lang.specs.Document.View.{forest}
use Rattle.bw_lang.proofs.Forests.{forest-take}
use Rattle.bw_shape.proofs.Walks.{Crossed, crossed_more}
use Rattle.bw_shape.proofs.cross.items_cross.Goals as goal

pub loop-item-preserved : goal.loop-item-preserved
loop-item-preserved c =
    let xs = c.as_slice-item-items.result.now in
    subst (λ t. Crossed c.args.tags.now c.args.node.now c.args.tops.now c.args.known.now c.args.pairs.now c.item_crosses.new.seen
    c.args.row.now c.item_crosses.new.row t)
    (sym (forest-take xs c.loop-item.item-index c.item-item.result c.item-item.is c.loop-item-test.true))
    (crossed_more c.args.tags.now c.args.node.now c.args.tops.now c.args.known.now c.args.pairs.now _ _ _ _ _
    (forest (take c.loop-item.item-index xs)) c.item-item.result
    c.requires.pairs c.loop-item.invariant c.in_ok-item_crosses.ensures.seen c.in_ok-item_crosses.ensures.row)
