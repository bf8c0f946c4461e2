use Rattle.std.proofs.Common.{◌<◌, length, get_or, subst, arith}
use Rattle.std.proofs.lemmas.List.{get_or_default}
use Rattle.bw_shape.specs.Reach.{Takes}
use Rattle.bw_shape.proofs.Placing.{placed_more, takes_here, takes_keeps, marks_more, all_marked}
use Rattle.bw_shape.proofs.arranging.place_all.Goals as goal

pub take_in-requires : goal.take_in-requires
take_in-requires c =
    let k = c.loop-n.n-index in
    let r = c.requires.small k 0 c.loop-n-test.true in
    subst (λ n. n < length c.loop-n.placed) (get_or_default c.args.order.now k 0 _ c.loop-n-test.true) (omega (arith, r, c.loop-n.invariant.0.len))

pub loop-n-preserved : goal.loop-n-preserved
loop-n-preserved c =
    let k = c.loop-n.n-index in
    let order = c.args.order.now in
    let to = get_or order k 0 in
    let low = c.requires.small k 0 c.loop-n-test.true in
    let here : to < length c.loop-n.placed = omega (arith, low, c.loop-n.invariant.0.len) in
    let t = subst (λ n. Takes n c.loop-n.placed c.loop-n.back.items c.take_in.new.seen c.take_in.new.order.items)
    (get_or_default order k _ 0 c.loop-n-test.true) c.in_ok-take_in.ensures in (
      placed_more (length c.args.placed.now) to c.loop-n.placed c.loop-n.back.items c.take_in.new.seen c.take_in.new.order.items low c.loop-n.invariant.0 t,
      marks_more order k c.loop-n.placed c.take_in.new.seen
          (λ n. takes_keeps to n c.loop-n.placed c.loop-n.back.items c.take_in.new.seen c.take_in.new.order.items here t)
          (takes_here to c.loop-n.placed c.loop-n.back.items c.take_in.new.seen c.take_in.new.order.items here t) c.loop-n.invariant.1,
    )

pub returns-clause-all : goal.returns-clause-all
returns-clause-all c = all_marked c.args.order.now c.loop-n.placed (λ i l. c.loop-n.invariant.1 i (omega (arith, l, c.loop-n-test.false)))
