use Rattle.std.proofs.Common.{◌+◌, ◌++◌, ap, sym, ◌∙◌, arith, drop, length, subst}
use Rattle.bw_lang.specs.Document.Forest.{none}
use Rattle.bw_lang.specs.Document.View.{before, forest}
use Rattle.bw_places.specs.Tags.{tags}
use Rattle.bw_blame.specs.Blames.{IsFirst, blames_items, holes}
use Rattle.bw_blame.proofs.Forests.{items_here, tags_here, holes_here}
use Rattle.bw_blame.proofs.Sites.{exits_or, either_in}
use Rattle.bw_blame.proofs.templates.+items.Goals as goal

pub items-returns-in_err-at-clause-first : goal.items-returns-in_err-at-clause-first
items-returns-in_err-at-clause-first t c =
    let s = c.args.names.now.service.now in let w = c.args.template.now in
    let xs = c.as_slice-item-items.result.now in let i = c.loop-item.item-index in let x = c.item-item.result in
    let whole = ap (blames_items s w c.args.d c.args.passed.tags c.args.passed.holes) (sym c.as_slice-item-items.ensures) ∙ c.loop-item.invariant.rest
    ∙ items_here s w c.args.d c.loop-item.at.tags c.loop-item.at.holes xs i x c.item-item.is c.loop-item-test.true in
    exits_or c.from_residual.result c.in_err-at.field-0.0 _ c.from_residual.ensures.1
    (subst (λ bs. IsFirst c.in_err-at.field-0.0 bs) (sym whole)
    (either_in (blames_items s w c.args.d c.loop-item.at.tags c.loop-item.at.holes (before x none)) _ c.in_err-at.field-0.0 c.in_err-at.ensures.first))

pub items-loop-item-preserved : goal.items-loop-item-preserved
items-loop-item-preserved t c =
    let s = c.args.names.now.service.now in let w = c.args.template.now in
    let xs = c.as_slice-item-items.result.now in let i = c.loop-item.item-index in let x = c.item-item.result in
    let m = c.loop-item.at.tags in let n = c.loop-item.at.holes in let rest = forest (drop (i + 1) xs) in
    record {
      ends = omega (arith, c.in_ok-at.ensures.tags, tags_here xs i x c.item-item.is c.loop-item-test.true);
      gaps = omega (arith, c.in_ok-at.ensures.holes, holes_here xs i x c.item-item.is c.loop-item-test.true);
      rest = c.loop-item.invariant.rest ∙ items_here s w c.args.d m n xs i x c.item-item.is c.loop-item-test.true
          ∙ ap (λ bs. bs ++ blames_items s w c.args.d (m + length (tags (before x none))) (n + holes (before x none)) rest) c.in_ok-at.ensures.none
          ∙ (λ j. blames_items s w c.args.d (sym c.in_ok-at.ensures.tags j) (sym c.in_ok-at.ensures.holes j) rest);
    }
