use Rattle.std.proofs.Common.{ap, sym, ◌∙◌, subst, arith}
use Rattle.std.specs.List.{list_any}
use Rattle.std.proofs.lemmas.List.{take_all}
use Rattle.bw_explain.specs.Building.{HasMore, of_label}
use Rattle.bw_explain.proofs.Tying.{more_none, more_step}
use Rattle.bw_explain.proofs.building.add_labels.Goals as goal

pub loop-label-init : goal.loop-label-init
loop-label-init c = record { made = c.requires.made; more = more_none (of_label) c.args.list.now.items }

pub loop-label-preserved : goal.loop-label-preserved
loop-label-preserved c = record {
  made = c.in_ok-add_at.ensures.made;
  more = more_step of_label c.args.list.now.items c.loop-label.list.items c.add_at.new.list.items c.args.labels.now c.loop-label.label-index
      c.label-item.result c.label-item.is c.loop-label-test.true c.loop-label.invariant.more c.in_ok-add_at.ensures.more;
}

pub add_at-requires-clause-n : goal.add_at-requires-clause-n
add_at-requires-clause-n c =
    let l = c.requires.rows c.loop-label.label-index c.label-item.result c.loop-label-test.true in
    let e = ap (λ z. z.0.0) c.label-item.is in
    let m = c.loop-label.invariant.more.len in
    omega (arith, l, e, m)

pub add_at-requires-clause-nodes : goal.add_at-requires-clause-nodes
add_at-requires-clause-nodes c = c.requires.nodes ∙ sym c.loop-label.invariant.more.len

pub add_at-requires-clause-said : goal.add_at-requires-clause-said
add_at-requires-clause-said c = c.requires.said ∙ sym c.loop-label.invariant.more.len

pub add_at-requires-clause-made : goal.add_at-requires-clause-made
add_at-requires-clause-made c = c.loop-label.invariant.made

pub returns-clause-made : goal.returns-clause-made
returns-clause-made c = c.loop-label.invariant.made

pub returns-clause-more : goal.returns-clause-more
returns-clause-more c =
    subst (λ ts. HasMore c.args.list.now.items c.loop-label.list.items (λ m h. list_any (of_label m h) ts))
    (take_all c.loop-label.label-index c.args.labels.now c.loop-label-test.false) c.loop-label.invariant.more
