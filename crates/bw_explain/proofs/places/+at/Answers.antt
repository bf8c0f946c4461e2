use Rattle.std.proofs.Common.{◌≡◌, ◌+◌, ◌-◌, ap, sym, arith, subst}
use Rattle.bw_lang.specs.declared.items.Item.{Item}
use Rattle.bw_lang.specs.Document.Documents.{elements}
use Rattle.bw_lang.specs.Document.Forest.{none, element}
use Rattle.bw_lang.specs.Document.View.{before}
use Rattle.bw_judge.specs.Faults.{At, here, inside}
use Rattle.bw_explain.specs.Places.{IsThere}
use Rattle.std.proofs.lemmas.Result.{MatchResult-weaker}
use Rattle.bw_explain.proofs.Placing.{element_among}
use Rattle.bw_explain.proofs.Walking.{elements_step}
use Rattle.bw_explain.proofs.places.+at.Goals as goal

pub element_at-loop-item-preserved : goal.element_at-loop-item-preserved
element_at-loop-item-preserved t c = record {
  left =
      let e = elements_step c.as_slice-item-items.result.now c.loop-item.item-index c.item-item.result c.item-item.is c.loop-item-test.true in
      let p = c.in-Err.ensures.0 in
      let v = c.loop-item.invariant.left in
      omega (arith, e, p, v);
  least = c.in-Err.ensures.1;
}

pub item_element-returns-then-place-eq1 : goal.item_element-returns-then-place-eq1
item_element-returns-then-place-eq1 t c =
    let e = c.in-Element.element in
    subst (λ (x : Item). At (before x none) c.args.place e.tag e.attrs e.items) (sym c.in-Element.is)
    (subst (λ k. At (element e.tag e.attrs e.items none) k e.tag e.attrs e.items) (sym c.if-place-eq1.true) here)

pub item_element-returns-else-place-eq1 : goal.item_element-returns-else-place-eq1
item_element-returns-else-place-eq1 t c =
    let e = c.in-Element.element in
    let p : 1 + (c.args.place - 1) ≡ c.args.place = let r = c.requires in omega (arith, r) in
    MatchResult-weaker c.element_at.result c.element_at.ensures
    (λ n h. subst (λ (x : Item). IsThere (before x none) c.args.place n.now) (sym c.in-Element.is)
    (subst (λ k. IsThere (element e.tag e.attrs e.items none) k n.now) p (inside h)))
    (λ r h. (let a = ap (λ (x : Item). elements (before x none)) c.in-Element.is in let b = h.0 in let q = p in omega (arith, a, b, q), h.1))

pub element_at-returns-in-Ok : goal.element_at-returns-in-Ok
element_at-returns-in-Ok t c = subst (λ f. IsThere f c.args.place c.in-Ok.found.now) c.as_slice-item-items.ensures
    (element_among c.as_slice-item-items.result.now c.loop-item.item-index c.item-item.result c.loop-item.left c.args.place c.in-Ok.found.now c.item-item.is
    c.loop-item-test.true c.loop-item.invariant.left c.in-Ok.ensures)
