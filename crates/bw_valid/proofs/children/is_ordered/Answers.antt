use Rattle.std.proofs.Common.{Bool, ◌+◌, drop, ap, sym, ◌∙◌}
use Rattle.bw_lang.specs.Document.View.{forest}
use Rattle.bw_valid.specs.Breaches.{ordered_behind}
use Rattle.bw_valid.proofs.Walks.{order_done, order_more}
use Rattle.bw_valid.proofs.children.is_ordered.Goals as goal

pub returns-then-stops : goal.returns-then-stops
returns-then-stops c =
    sym (c.loop-item.invariant
    ∙ order_done c.args.first.now c.args.last.now c.loop-item.passed c.as_slice-item-items.result.now c.loop-item.item-index c.item-item.result
    c.item-item.is c.loop-item-test.true
    (sym c.stops.ensures ∙ c.if-stops.true))

pub loop-item-preserved : goal.loop-item-preserved
loop-item-preserved c =
    c.loop-item.invariant
    ∙ order_more c.args.first.now c.args.last.now c.loop-item.passed c.as_slice-item-items.result.now c.loop-item.item-index c.item-item.result
    c.item-item.is c.loop-item-test.true
    (sym c.stops.ensures ∙ c.if-stops.false)
    ∙ ap (λ (p : Bool). ordered_behind p c.args.first.now c.args.last.now (forest (drop (c.loop-item.item-index + 1) c.as_slice-item-items.result.now)))
    (sym c.passes-passed.ensures)
