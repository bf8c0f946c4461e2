use Rattle.std.proofs.Common.{ℕ, zero, suc, ◌≤◌, length, get_or, replicate, ap, sym, ◌∙◌, subst, arith}
use Rattle.std.proofs.lemmas.List.{length-replicate}
use Rattle.bw_lang.specs.Document.Forest.{none}
use Rattle.bw_explain.specs.declared.sizes.TheConstants.{NONE}
use Rattle.bw_shape.proofs.Filled.{one_more, as_many}
use Rattle.bw_explain.proofs.table.Table.new.Goals as goal

most_at : (count n past : ℕ) → past ≤ NONE → get_or (replicate count NONE) n past ≤ NONE
most_at zero n past h = h
most_at (suc count) zero past h = omega arith
most_at (suc count) (suc n) past h = most_at count n past h

pub loop-preserved : goal.loop-preserved
loop-preserved c = one_more _ _ c.in_ok-push.ensures.items c.loop.invariant c.new.ensures

pub invariant_of-result : goal.invariant_of-result
invariant_of-result c =
    let docs = as_many _ _ _ c.loop.invariant c.loop-test.false c.loop.auto.counter-end in
    let sizes = c.in_ok-vec.ensures.items_if_clones_equal (λ y e. e) in
    record {
      long = ap length docs ∙ length-replicate c.args.count none ∙ sym (ap length sizes ∙ length-replicate c.args.count NONE);
      most = λ n. subst (λ xs. get_or xs n c.args.past ≤ NONE) (sym sizes) (most_at c.args.count n c.args.past c.requires);
      beyond = c.requires;
    }

pub returns : goal.returns
returns c =
    let docs = as_many _ _ _ c.loop.invariant c.loop-test.false c.loop.auto.counter-end in
    let sizes = c.in_ok-vec.ensures.items_if_clones_equal (λ y e. e) in
    λ i. record { past = c.args.past; sizes = sizes i; docs = docs i }
