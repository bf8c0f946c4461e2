use Rattle.std.proofs.Common.{◌+◌, ◌++◌, ap, sym, ◌∙◌, arith, drop}
use Rattle.std.proofs.lemmas.Grind.{common_steps}
use Rattle.bw_lang.specs.Service.TermView.{term, fillings}
use Rattle.bw_places.specs.Counts.{term_tokens}
use Rattle.bw_places.proofs.Rests.{pairs_at}
use Rattle.bw_types.proofs.Pairs.{pair_size_at_read}
use Rattle.bw_types.specs.Gaps.{kind_of_gap}
use Rattle.bw_blame.specs.Blames.{blames_in_pairs, first_site}
use Rattle.bw_blame.proofs.Sites.{exits, pair_first, pair_kind_first, pairs_here, first_in}
use Rattle.bw_blame.proofs.expressions.+expr.Goals as goal

pub pairs_of-pair_of-requires : goal.pairs_of-pair_of-requires
pairs_of-pair_of-requires t c = (
  grind (arith, common_steps, pair_size_at_read),
  omega (arith, pairs_at c.as_slice-pair-items.result.now c.loop-pair.pair-index c.pair-item.result c.pair-item.is c.loop-pair-test.true),
)

pub pairs_of-returns-in_err-at-clause-first : goal.pairs_of-returns-in_err-at-clause-first
pairs_of-returns-in_err-at-clause-first t c =
    let s = c.args.names.now.service.now in let k = c.args.locals.now in let x = c.pair-item.result in
    let at = c.loop-pair.at in
    exits c.from_residual.result c.in_err-at.field-0.0 _ c.from_residual.ensures.1
    (ap (λ bs. first_site bs) (c.loop-pair.invariant.rest
    ∙ pairs_here s k c.args.d at c.as_slice-pair-items.result.now c.loop-pair.pair-index x c.pair-item.is c.loop-pair-test.true)
    ∙ first_in _ _ _ c.in_err-at.ensures.first)

pub pairs_of-loop-pair-preserved : goal.pairs_of-loop-pair-preserved
pairs_of-loop-pair-preserved t c =
    let s = c.args.names.now.service.now in let k = c.args.locals.now in let x = c.pair-item.result in
    let at = c.loop-pair.at in let xs = c.as_slice-pair-items.result.now in let i = c.loop-pair.pair-index in
    record {
      ends = omega (arith, c.in_ok-at.ensures.end, pairs_at xs i x c.pair-item.is c.loop-pair-test.true);
      rest = c.loop-pair.invariant.rest ∙ pairs_here s k c.args.d at xs i x c.pair-item.is c.loop-pair-test.true
          ∙ ap (λ bs. bs ++ blames_in_pairs s k c.args.d (at + 3 + term_tokens (term x.value)) (fillings (drop (i + 1) xs))) c.in_ok-at.ensures.none
          ∙ ap (λ q. blames_in_pairs s k c.args.d q (fillings (drop (i + 1) xs))) (sym c.in_ok-at.ensures.end);
    }

pub pair_of-returns-in_err-seen-in-Some-clause-first : goal.pair_of-returns-in_err-seen-in-Some-clause-first
pair_of-returns-in_err-seen-in-Some-clause-first t c =
    exits c.from_residual.result c.in_err-seen-in-Some.field-0.0 _ c.from_residual.ensures.1
    (pair_first c.args.names.now.service.now c.args.locals.now c.args.d c.args.p c.args.pair.now.gap (term c.args.pair.now.value) c.in-Some.gap _
    (ap (kind_of_gap c.args.names.now.service.now) (sym c.as_str.ensures.text) ∙ sym c.in-Some.ensures) c.in_err-seen-in-Some.ensures.first)

pub pair_of-returns-in_err-wanted_by_gap-in-Some-clause-first : goal.pair_of-returns-in_err-wanted_by_gap-in-Some-clause-first
pair_of-returns-in_err-wanted_by_gap-in-Some-clause-first t c =
    exits c.from_residual-in_err-wanted_by_gap-in-Some.result c.in_err-wanted_by_gap-in-Some.field-0.0 _
    c.from_residual-in_err-wanted_by_gap-in-Some.ensures.1
    (pair_kind_first c.args.names.now.service.now c.args.locals.now c.args.d c.args.p c.in_ok-seen-in-Some.seen.end c.args.pair.now.gap
    (term c.args.pair.now.value) c.in-Some.gap c.in_ok-seen-in-Some.seen.kind _ (ap (kind_of_gap c.args.names.now.service.now)
    (sym c.as_str.ensures.text) ∙ sym c.in-Some.ensures) c.in_ok-seen-in-Some.ensures.kind
    c.in_ok-seen-in-Some.ensures.none c.in_ok-seen-in-Some.ensures.end c.in_err-wanted_by_gap-in-Some.ensures.first)
