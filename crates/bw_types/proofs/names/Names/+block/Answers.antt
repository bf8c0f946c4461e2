use Rattle.std.proofs.Common.{◌+◌, length, drop, refl, ap, sym, ◌∙◌, append-nil}
use Rattle.bw_lang.specs.Service.Code.{done}
use Rattle.bw_lang.specs.Service.CodeView.{before, code}
use Rattle.bw_types.specs.Faults.{code_faults}
use Rattle.bw_types.specs.Places.{after, outside}
use Rattle.bw_lang.specs.declared.stmt.Stmt.TheVariants.{If}
use Rattle.bw_types.specs.Scopes.{scope_behind}
use Rattle.bw_types.proofs.First.{exits, passed, both, on_ok_same, if_err_same}
use Rattle.bw_types.proofs.Codes.{faults_here, after_here, outside-after}
use Rattle.bw_types.proofs.names.Names.+block.Goals as goal

pub block-returns-in_err-statement-clause-first : goal.block-returns-in_err-statement-clause-first
block-returns-in_err-statement-clause-first t c =
    let s = c.args.self.now.service.now in let l = c.loop-stmt.locals in let x = c.stmt-item.result in
    exits c.from_residual.result c.in_err-statement.field-0.0 (code_faults s l (before x done)) _ _ c.from_residual.ensures.1 c.in_err-statement.ensures.first
    (ap (code_faults s c.args.locals.now) (sym c.as_slice-stmt-items.ensures)
    ∙ faults_here s l _ _ x _ c.loop-stmt.invariant.faults c.stmt-item.is c.loop-stmt-test.true)

pub block-loop-stmt-preserved : goal.block-loop-stmt-preserved
block-loop-stmt-preserved t c =
    let s = c.args.self.now.service.now in let l = c.loop-stmt.locals in let xs = c.as_slice-stmt-items.result.now in let i = c.loop-stmt.stmt-index in
    let x = c.stmt-item.result in
    let rest = code (drop (i + 1) xs) in let n = length c.args.locals.now.locals in
    record {
      faults =
          passed _ (code_faults s l (before x done)) _
          (faults_here s l xs i x _ c.loop-stmt.invariant.faults c.stmt-item.is c.loop-stmt-test.true) c.in_ok-statement.ensures.none
          ∙ ap (λ m. code_faults s m rest) (sym c.in_ok-statement.ensures.left);
      left = ap (λ m. outside n (after m rest)) c.in_ok-statement.ensures.left
          ∙ ap (outside n) (sym (after_here l xs i x c.stmt-item.is c.loop-stmt-test.true)) ∙ c.loop-stmt.invariant.left;
    }

pub block-loop-stmt-init : goal.block-loop-stmt-init
block-loop-stmt-init t c = record { faults = refl; left = outside-after c.args.locals.now (code c.as_slice-stmt-items.result.now) }

pub statement-returns-in-Some : goal.statement-returns-in-Some
statement-returns-in-Some t c =
    let s = c.args.self.now.service.now in let k = c.args.locals.now in
    let is = c.in-If.is ∙ ap (If c.in-If.test c.in-If.yes) c.in-Some.is in
    let here = passed _ _ _ (passed _ _ _ (ap (λ x. code_faults s k (before x done)) is) c.in_ok-wanted-in-If.ensures.none)
    c.in_ok-block-in-If.ensures.none ∙ append-nil _ in
    let seen = ap (λ m. code_faults s m c.in-Some.no) (sym c.in_ok-block-in-If.ensures.left) in
    record {
      none = on_ok_same c.block-in-Some.result (here ∙ seen) c.block-in-Some.ensures.none refl;
      left = on_ok_same c.block-in-Some.result refl c.block-in-Some.ensures.left
          (ap (λ m. scope_behind m c.in-Some.no) c.in_ok-block-in-If.ensures.left ∙ ap (λ x. after k (before x done)) (sym is));
      first = if_err_same c.block-in-Some.result _ _ (here ∙ seen) c.block-in-Some.ensures.first;
    }

pub statement-returns-in-None : goal.statement-returns-in-None
statement-returns-in-None t c =
    let s = c.args.self.now.service.now in let k = c.args.locals.now in
    let is = c.in-If.is ∙ ap (If c.in-If.test c.in-If.yes) c.in-None.is in
    record {
      none = ap (λ x. code_faults s k (before x done)) is ∙ both _ _ c.in_ok-wanted-in-If.ensures.none (both _ _ c.in_ok-block-in-If.ensures.none refl);
      left = c.in_ok-block-in-If.ensures.left ∙ ap (λ x. after k (before x done)) (sym is);
      first = tt;
    }
