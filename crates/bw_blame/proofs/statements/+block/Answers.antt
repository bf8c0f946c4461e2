use Rattle.std.proofs.Common.{◌≡◌, ◌+◌, ◌++◌, ap, sym, ◌∙◌, refl, arith, drop, length, subst}
use Rattle.std.proofs.lemmas.Grind.{common_steps}
use Rattle.bw_lang.proofs.Sizes.{statement_at_read}
use Rattle.bw_lang.specs.Service.Code.{done}
use Rattle.bw_lang.specs.Service.CodeView.{before, code}
use Rattle.bw_places.specs.Counts.{code_tokens}
use Rattle.bw_places.proofs.Rests.{block_at}
use Rattle.bw_types.specs.Places.{after, outside}
use Rattle.bw_types.proofs.Codes.{after_here, outside-after}
use Rattle.bw_blame.specs.Blames.{IsFirst, blames_code}
use Rattle.bw_blame.proofs.Blocks.{blames_here}
use Rattle.bw_blame.proofs.Sites.{exits_or, either_in}
use Rattle.bw_blame.proofs.statements.+block.Goals as goal

pub block-loop-stmt-init : goal.block-loop-stmt-init
block-loop-stmt-init t c = record { ends = refl; rest = refl; left = outside-after c.args.locals.now (code c.as_slice-stmt-items.result.now) }

pub block-statement-requires : goal.block-statement-requires
block-statement-requires t c =
    let xs = c.as_slice-stmt-items.result.now in let i = c.loop-stmt.stmt-index in let x = c.stmt-item.result in
    let e = ap code_tokens c.as_slice-stmt-items.ensures in
    (grind (arith, common_steps, statement_at_read), omega (arith, e, block_at xs i x c.stmt-item.is c.loop-stmt-test.true))

pub block-returns-in_err-at-clause-first : goal.block-returns-in_err-at-clause-first
block-returns-in_err-at-clause-first t c =
    let s = c.args.names.now.service.now in let l = c.loop-stmt.locals in
    let xs = c.as_slice-stmt-items.result.now in let i = c.loop-stmt.stmt-index in let x = c.stmt-item.result in
    let whole = ap (blames_code s c.args.locals.now c.args.d c.args.p) (sym c.as_slice-stmt-items.ensures) ∙ c.loop-stmt.invariant.rest
    ∙ blames_here s l c.args.d c.loop-stmt.at xs i x c.stmt-item.is c.loop-stmt-test.true in
    exits_or c.from_residual.result c.in_err-at.field-0.0 _ c.from_residual.ensures.1
    (subst (λ bs. IsFirst c.in_err-at.field-0.0 bs) (sym whole) (either_in (blames_code s l c.args.d c.loop-stmt.at
    (before x done)) _ c.in_err-at.field-0.0 c.in_err-at.ensures.first))

pub block-loop-stmt-preserved : goal.block-loop-stmt-preserved
block-loop-stmt-preserved t c =
    let s = c.args.names.now.service.now in let l = c.loop-stmt.locals in
    let xs = c.as_slice-stmt-items.result.now in let i = c.loop-stmt.stmt-index in let x = c.stmt-item.result in
    let rest = code (drop (i + 1) xs) in let n = length c.args.locals.now.locals in let at = c.loop-stmt.at in
    record {
      ends = omega (arith, c.in_ok-at.ensures.end, block_at xs i x c.stmt-item.is c.loop-stmt-test.true);
      rest = c.loop-stmt.invariant.rest ∙ blames_here s l c.args.d at xs i x c.stmt-item.is c.loop-stmt-test.true
          ∙ ap (λ bs. bs ++ blames_code s (after l (before x done)) c.args.d (at + code_tokens (before x done)) rest) c.in_ok-at.ensures.none
          ∙ ap (λ q. blames_code s (after l (before x done)) c.args.d q rest) (sym c.in_ok-at.ensures.end)
          ∙ ap (λ m. blames_code s m c.args.d c.in_ok-at.at rest) (sym c.in_ok-at.ensures.left);
      left = ap (λ m. outside n (after m rest)) c.in_ok-at.ensures.left
          ∙ ap (outside n) (sym (after_here l xs i x c.stmt-item.is c.loop-stmt-test.true)) ∙ c.loop-stmt.invariant.left;
    }
