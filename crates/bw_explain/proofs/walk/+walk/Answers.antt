use Rattle.std.proofs.Common.{ap, sym, ◌∙◌, arith}
use Rattle.std.proofs.lemmas.List.{take_all}
use Rattle.bw_lang.specs.Document.Forest.{none}
use Rattle.bw_lang.specs.Document.View.{forest, before}
use Rattle.bw_explain.specs.Aims.{walk_of}
use Rattle.bw_explain.specs.Walks.{from, moves_of, next_reach, walk, item_cost}
use Rattle.bw_explain.proofs.Walking.{walk_step, elements_step}
use Rattle.bw_explain.proofs.walk.+walk.Goals as goal

pub reach_items-loop-item-preserved : goal.reach_items-loop-item-preserved
reach_items-loop-item-preserved t c =
    let v = c.loop-item.invariant in
    let u = walk_of c.args.walk.now in
    let xs = c.as_slice-item-items.result.now in
    let i = c.loop-item.item-index in
    let x = c.item-item.result in
    record {
      is = c.then-reach.ensures.is ∙ ap (λ m. next_reach c.loop-item.reach m) c.item_step-step.ensures.moves
          ∙ ap (λ r. next_reach r (moves_of (item_cost u c.args.n c.loop-item.at (before x none)))) v.is
          ∙ sym (walk_step u c.args.n c.args.place c.loop-item.at (from c.args.state) xs i x c.item-item.is c.loop-item-test.true v.place);
      place =
          let e = c.item_step-step.ensures.place in
          let f = elements_step xs i x c.item-item.is c.loop-item-test.true in
          let p = v.place in
          omega (arith, e, f, p);
      most = c.then-reach.ensures.most;
    }

pub reach_items-returns-clause-is : goal.reach_items-returns-clause-is
reach_items-returns-clause-is t c =
    c.loop-item.invariant.is
    ∙ ap (λ x. walk (walk_of c.args.walk.now) c.args.n c.args.place (from c.args.state) (forest x))
    (take_all c.loop-item.item-index c.as_slice-item-items.result.now c.loop-item-test.false)
    ∙ ap (walk (walk_of c.args.walk.now) c.args.n c.args.place (from c.args.state)) c.as_slice-item-items.ensures
