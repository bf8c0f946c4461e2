use Rattle.std.proofs.Common.{◌≡◌, ◌+◌, ◌∙◌, ap, sym, subst, drop, arith}
use Rattle.std.specs.Result.{OnOk}
use Rattle.std.proofs.lemmas.Grind.{common_steps}
use Rattle.bw_lang.proofs.Sizes.{statement_at_read}
use Rattle.bw_lang.specs.Service.CodeView.{code}
use Rattle.bw_places.specs.Scopes.{locals_at, behind_stmt}
use Rattle.bw_places.proofs.Rests.{block_at}
use Rattle.bw_places.proofs.Scoped.{locals_inside, locals_behind}
use Rattle.bw_places.proofs.scopes.+scope.Goals as goal

pub locals_at-stmt_tokens-requires : goal.locals_at-stmt_tokens-requires
locals_at-stmt_tokens-requires t c =
    omega (arith, block_at c.as_slice-stmt-items.result.now c.loop-stmt.stmt-index c.stmt-item.result c.stmt-item.is c.loop-stmt-test.true)

pub locals_at-locals_in-requires : goal.locals_at-locals_in-requires
locals_at-locals_in-requires t c =
    let step = block_at c.as_slice-stmt-items.result.now c.loop-stmt.stmt-index c.stmt-item.result c.stmt-item.is c.loop-stmt-test.true in
    (grind (arith, common_steps, statement_at_read), (omega (arith, c.requires, c.loop-stmt.invariant.ends, step), omega (arith, c.if-to-behind.true, c.stmt_tokens.ensures)))

pub locals_at-loop-stmt-preserved : goal.locals_at-loop-stmt-preserved
locals_at-loop-stmt-preserved t c =
    let xs = c.as_slice-stmt-items.result.now in let i = c.loop-stmt.stmt-index in let x = c.stmt-item.result in let at = c.loop-stmt.place in
    let to = c.args.to in let rest = code (drop (i + 1) xs) in let outer = behind_stmt x c.loop-stmt.names in
    record {
      ends = omega (arith, c.loop-stmt.invariant.ends, c.stmt_tokens.ensures, block_at xs i x c.stmt-item.is c.loop-stmt-test.true);
      scope = c.loop-stmt.invariant.scope
          ∙ locals_behind xs i x at to c.loop-stmt.names c.stmt-item.is c.loop-stmt-test.true (omega (arith, c.if-to-behind.false, c.stmt_tokens.ensures))
          ∙ ap (λ n. locals_at rest (at + n) to outer) (sym c.stmt_tokens.ensures)
          ∙ ap (λ o. locals_at rest (at + c.stmt_tokens.result) to o) (sym c.in_ok-push_declared.ensures);
    }

pub locals_at-returns-then-to-behind : goal.locals_at-returns-then-to-behind
locals_at-returns-then-to-behind t c =
    let x = c.stmt-item.result in let at = c.loop-stmt.place in
    let inside = locals_inside c.as_slice-stmt-items.result.now c.loop-stmt.stmt-index x at c.args.to c.loop-stmt.names c.stmt-item.is c.loop-stmt-test.true
    (omega (arith, c.if-to-behind.true, c.stmt_tokens.ensures)) in
    subst (λ o. OnOk c.locals_in.result (c.locals_in.new.names ≡ o)) (sym (c.loop-stmt.invariant.scope ∙ inside)) c.locals_in.ensures
