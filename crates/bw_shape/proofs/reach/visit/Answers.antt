use Rattle.std.proofs.Common.{ℕ, ap, ◌∙◌, subst, arith}
use Rattle.std.proofs.lemmas.List.{get_or_default}
use Rattle.bw_shape.specs.Reach.{Takes}
use Rattle.bw_shape.proofs.Reaching.{visit_more}
use Rattle.bw_shape.proofs.reach.visit.Goals as goal

pub take_in-requires : goal.take_in-requires
take_in-requires c =
    let k = c.loop-link.link-index in
    let r = c.requires k c.link-item.result c.loop-link-test.true in
    let e = c.number.ensures ∙ ap {B = ℕ} (λ x. x.1) c.link-item.is in
    omega (arith, r, e, c.loop-link.invariant.len)

pub loop-link-preserved : goal.loop-link-preserved
loop-link-preserved c =
    let k = c.loop-link.link-index in
    let r = c.requires k (0, 0) c.loop-link-test.true in
    let e = c.number.ensures ∙ ap {B = ℕ} (λ x. x.1) (c.link-item.is ∙ get_or_default c.args.links.now k c.link-item.result (0, 0) c.loop-link-test.true) in
    visit_more c.args.links.now k c.args.seen.now c.args.order.now.items c.loop-link.seen c.loop-link.order.items c.take_in.new.seen
    c.take_in.new.order.items (omega (arith, r, c.loop-link.invariant.len)) c.loop-link.invariant
    (subst (λ to. Takes to c.loop-link.seen c.loop-link.order.items c.take_in.new.seen c.take_in.new.order.items) e c.in_ok-take_in.ensures)
