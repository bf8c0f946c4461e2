use Rattle.std.proofs.Common.{inl, inr, arith, ap, sym, subst}
use Rattle.std.specs.Prelude.{OnOk}
use Rattle.bw_faults.specs.Lists.{Adds}
use Rattle.bw_faults.proofs.Adding.{adds_then}
use Rattle.bw_lang.specs.Document.View.{before}
use Rattle.bw_lang.specs.Document.Documents.{elements}
use Rattle.bw_lang.specs.Document.Forest.{none, element, forest_size}
use Rattle.bw_judge.specs.Found as found
use Rattle.bw_lang.proofs.Counts.{elements_upto}
use Rattle.bw_lang.proofs.Forests.{item_le-size}
use Rattle.bw_judge.proofs.Lists.{elements_next, adds_item}
use Rattle.bw_shape.proofs.Outcomes.{on_ok}
use Rattle.bw_judge.proofs.elements.+walk.Goals as goal

pub judge_items-judge_item-requires : goal.judge_items-judge_item-requires
judge_items-judge_item-requires t c =
    let xs = c.as_slice-item-items.result.now in
    let is = c.as_slice-item-items.ensures in
    let k = elements_upto xs c.loop-item.item-index c.item-item.result c.item-item.is c.loop-item-test.true in
    let s = item_le-size xs c.loop-item.item-index c.item-item.result c.item-item.is c.loop-item-test.true in
    (omega (arith, s, ap forest_size is), omega (arith, k, c.loop-item.invariant.0, c.requires, ap elements is))

pub judge_items-loop-item-preserved : goal.judge_items-loop-item-preserved
judge_items-loop-item-preserved t c =
    let xs = c.as_slice-item-items.result.now in (
      omega (
        arith,
        c.in_ok-place.ensures.place,
        c.loop-item.invariant.0,
        elements_next xs c.loop-item.item-index c.item-item.result c.item-item.is c.loop-item-test.true,
      ),
      adds_item (found.OfElement c.args.scene.now c.args.rules.now) c.args.spot xs c.loop-item.item-index c.item-item.result c.loop-item.place _ _ _
          c.item-item.is c.loop-item-test.true c.loop-item.invariant.0 c.loop-item.invariant.1 c.in_ok-place.ensures.faults,
    )

pub judge_item-returns-in_ok-judge_element-in-Element-clause-faults : goal.judge_item-returns-in_ok-judge_element-in-Element-clause-faults
judge_item-returns-in_ok-judge_element-in-Element-clause-faults t c =
    let P = found.OfElement c.args.scene.now c.args.rules.now in
    let e = c.in-Element.element in
    subst (λ i. OnOk c.judge_items.result (Adds (found.OfForest P c.args.spot (before i none)) c.args.faults.now c.judge_items.new.faults))
    (sym c.in-Element.is)
    (on_ok c.judge_items.result (λ q. adds_then (found.OfForest P c.args.spot (element e.tag e.attrs e.items none)) c.in_ok-judge_element-in-Element.ensures q
    (λ x h. elim h [ inl k ↦ inl k | inr k ↦ inr (inl k) ])
    (λ x h. elim h [ inl k ↦ inl k | inr k ↦ elim k [ inl l ↦ inr l | inr l ↦ absurd l ] ])) c.judge_items.ensures.faults)
