use Rattle.std.proofs.Common.{ap, sym, ◌∙◌, subst, arith}
use Rattle.std.specs.List.{list_any}
use Rattle.std.proofs.lemmas.List.{take_all}
use Rattle.bw_explain.specs.Building.{HasMore, of_edge}
use Rattle.bw_explain.proofs.Tying.{more_none, more_step}
use Rattle.bw_explain.proofs.building.add_edges.Goals as goal

pub loop-edge-init : goal.loop-edge-init
loop-edge-init c = record { made = c.requires.made; more = more_none (of_edge) c.args.list.now.items }

pub loop-edge-preserved : goal.loop-edge-preserved
loop-edge-preserved c = record {
  made = c.in_ok-add_at.ensures.made;
  more = more_step of_edge c.args.list.now.items c.loop-edge.list.items c.add_at.new.list.items c.args.edges.now c.loop-edge.edge-index c.edge-item.result
      c.edge-item.is c.loop-edge-test.true c.loop-edge.invariant.more c.in_ok-add_at.ensures.more;
}

pub add_at-requires-clause-n : goal.add_at-requires-clause-n
add_at-requires-clause-n c =
    let l = c.requires.rows c.loop-edge.edge-index c.edge-item.result c.loop-edge-test.true in
    let e = ap (λ z. z.0) c.edge-item.is in
    let m = c.loop-edge.invariant.more.len in
    omega (arith, l, e, m)

pub add_at-requires-clause-nodes : goal.add_at-requires-clause-nodes
add_at-requires-clause-nodes c = c.requires.nodes ∙ sym c.loop-edge.invariant.more.len

pub add_at-requires-clause-said : goal.add_at-requires-clause-said
add_at-requires-clause-said c = c.requires.said ∙ sym c.loop-edge.invariant.more.len

pub add_at-requires-clause-made : goal.add_at-requires-clause-made
add_at-requires-clause-made c = c.loop-edge.invariant.made

pub returns-clause-made : goal.returns-clause-made
returns-clause-made c = c.loop-edge.invariant.made

pub returns-clause-more : goal.returns-clause-more
returns-clause-more c =
    subst (λ ts. HasMore c.args.list.now.items c.loop-edge.list.items (λ m h. list_any (of_edge m h) ts))
    (take_all c.loop-edge.edge-index c.args.edges.now c.loop-edge-test.false) c.loop-edge.invariant.more
