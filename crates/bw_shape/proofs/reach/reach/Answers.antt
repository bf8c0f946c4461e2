use Rattle.std.proofs.Common.{◌<◌, length, get_or, [], sym, subst, arith}
use Rattle.std.specs.List.{All}
use Rattle.bw_shape.proofs.Rows.Rows.{ones_most}
use Rattle.bw_shape.specs.Reach.{Takes, Visit}
use Rattle.bw_shape.proofs.Reaching.{reach_start, reach_more, reach_all, next_links}
use Rattle.bw_shape.proofs.reach.reach.Goals as goal

pub loop-next-init : goal.loop-next-init
loop-next-init c =
    reach_start c.args.nodes.now c.args.root c.take_in.new.seen c.take_in.new.order.items c.requires.root
    (subst (λ s. Takes c.args.root s [] c.take_in.new.seen c.take_in.new.order.items) c.requires.seen
    (subst (λ o. Takes c.args.root c.args.seen.now o c.take_in.new.seen c.take_in.new.order.items) c.requires.order c.in_ok-take_in.ensures))

pub visit-requires : goal.visit-requires
visit-requires c =
    let r = c.loop-next.invariant in
    let k = c.loop-next.next in
    let l : k < length c.loop-next.order.items = omega (arith, c.loop-next-test.true, c.len.ensures) in
    let e = next_links c.args.nodes.now c.args.root c.loop-next.seen c.loop-next.order.items k l r c.index.result.now c.index.ensures
    c.index-nodes-template.result c.index-nodes-template.is c.links.result.now c.links.ensures in
    subst (λ ls. All (λ l. l.1 < length c.loop-next.seen) ls) (sym e)
    (λ i d h. let b = c.requires.links (get_or c.loop-next.order.items k 0) i d h in omega (arith, b, r.len))

pub loop-next-smaller : goal.loop-next-smaller
loop-next-smaller c =
    let r = c.loop-next.invariant in
    let m = ones_most c.loop-next.seen in
    omega (arith, r.count, m, r.len, c.loop-next-test.true)

pub loop-next-preserved : goal.loop-next-preserved
loop-next-preserved c =
    let r = c.loop-next.invariant in
    let k = c.loop-next.next in
    let l : k < length c.loop-next.order.items = omega (arith, c.loop-next-test.true, c.len.ensures) in
    let e = next_links c.args.nodes.now c.args.root c.loop-next.seen c.loop-next.order.items k l r c.index.result.now c.index.ensures
    c.index-nodes-template.result c.index-nodes-template.is c.links.result.now c.links.ensures in
    reach_more c.args.nodes.now c.args.root c.loop-next.seen c.loop-next.order.items k c.visit.new.seen c.visit.new.order.items l r
    (subst (λ ls. Visit ls (length ls) c.loop-next.seen c.loop-next.order.items c.visit.new.seen c.visit.new.order.items) e c.in_ok-visit.ensures)

pub returns : goal.returns
returns c = reach_all c.args.nodes.now c.args.root c.loop-next.seen c.loop-next.order.items c.loop-next.next
    (omega (arith, c.loop-next-test.false, c.len.ensures)) c.loop-next.invariant
