use Rattle.std.proofs.Common.{List, ap, ◌∙◌, sym, refl}
use Rattle.std.proofs.lemmas.Result.{err_from_is_err_and}
use Rattle.bw_lang.specs.declared.expr.Pair.{Pair}
use Rattle.bw_lang.specs.Service.TermView.{fillings}
use Rattle.bw_types.specs.ExpressionFaults.{faults_in_pairs, faults_in, kind_of, left_demand, right_demand, op_sort, op_kind, demand, gap_demand}
use Rattle.bw_types.proofs.First.{exits, passed, at_element, first_of, first_is, first_in_same, both}
use Rattle.bw_types.proofs.Pairs.{pair_faults, pairs_step}
use Rattle.bw_types.proofs.names.Names.+expr.Goals as goal

pub pairs-returns-in_err-pair-clause-first : goal.pairs-returns-in_err-pair-clause-first
pairs-returns-in_err-pair-clause-first t c =
    let s = c.args.self.now.service.now in let k = c.args.locals.now in let x = c.pair-item.result in
    exits c.from_residual.result c.in_err-pair.field-0.0 (pair_faults s k x) _ _ c.from_residual.ensures.1 c.in_err-pair.ensures.first
    (ap (faults_in_pairs s k) (sym c.as_slice-pair-items.ensures)
    ∙ at_element (λ (l : List Pair). faults_in_pairs s k (fillings l)) (pair_faults s k)
    (pairs_step s k) _ _ x _ c.loop-pair.invariant c.pair-item.is c.loop-pair-test.true)

pub pairs-loop-pair-preserved : goal.pairs-loop-pair-preserved
pairs-loop-pair-preserved t c =
    let s = c.args.self.now.service.now in let k = c.args.locals.now in let x = c.pair-item.result in
    passed _ (pair_faults s k x) _ (at_element (λ (l : List Pair). faults_in_pairs s k (fillings l)) (pair_faults s k)
    (pairs_step s k) _ _ x _ c.loop-pair.invariant c.pair-item.is c.loop-pair-test.true) c.in_ok-pair.ensures.none

pub binary-returns : goal.binary-returns
binary-returns t c =
    let s = c.args.self.now.service.now in let k = c.args.locals.now in let o = op_sort c.args.op in
    let left = ap (kind_of s k) (sym c.expr.ensures) ∙ c.in_ok-left_kind.ensures.kind in
    let right = ap (kind_of s k) (sym c.expr-3.ensures) ∙ c.in_ok-right_kind.ensures.kind in
    record {
      none = both _ _ (ap (faults_in s k) (sym c.expr.ensures) ∙ c.in_ok-left_kind.ensures.none)
          (both _ _ (ap (left_demand o) left ∙ c.in_ok-demand_left.ensures.none)
          (both _ _ (ap (faults_in s k) (sym c.expr-3.ensures) ∙ c.in_ok-right_kind.ensures.none)
          (ap (λ l. right_demand o l (kind_of s k c.args.right.now)) left ∙ ap (right_demand o _) right ∙ c.in_ok-demand_right.ensures.none)));
      kind = ap (op_kind o) left ∙ c.op_kind.ensures;
      first = tt;
    }

pub binary-returns-in_err-left_kind : goal.binary-returns-in_err-left_kind
binary-returns-in_err-left_kind t c =
    let s = c.args.self.now.service.now in let k = c.args.locals.now in
    let p = err_from_is_err_and c.from_residual.result c.from_residual.ensures.1 in
    rw (p.1, p.2) (record {
      none = tt;
      kind = tt;
      first = first_of _ _ _ _ (first_in_same _ _ _ (ap (faults_in s k) (sym c.expr.ensures)) c.in_err-left_kind.ensures.first) refl;
    })

pub binary-returns-in_err-demand_left : goal.binary-returns-in_err-demand_left
binary-returns-in_err-demand_left t c =
    let s = c.args.self.now.service.now in let k = c.args.locals.now in let o = op_sort c.args.op in
    let left = ap (kind_of s k) (sym c.expr.ensures) ∙ c.in_ok-left_kind.ensures.kind in
    let p = err_from_is_err_and c.from_residual-in_err-demand_left.result c.from_residual-in_err-demand_left.ensures.1 in
    rw (p.1, p.2) (record {
      none = tt;
      kind = tt;
      first = first_of _ _ _ _ (first_is _ _ _ (ap (left_demand o) left) c.in_err-demand_left.ensures.first)
          (passed _ _ _ refl (ap (faults_in s k) (sym c.expr.ensures) ∙ c.in_ok-left_kind.ensures.none));
    })

pub binary-returns-in_err-right_kind : goal.binary-returns-in_err-right_kind
binary-returns-in_err-right_kind t c =
    let s = c.args.self.now.service.now in let k = c.args.locals.now in let o = op_sort c.args.op in
    let left = ap (kind_of s k) (sym c.expr.ensures) ∙ c.in_ok-left_kind.ensures.kind in
    let p = err_from_is_err_and c.from_residual-in_err-right_kind.result c.from_residual-in_err-right_kind.ensures.1 in
    rw (p.1, p.2) (record {
      none = tt;
      kind = tt;
      first = first_of _ _ _ _ (first_in_same _ _ _ (ap (faults_in s k) (sym c.expr-3.ensures)) c.in_err-right_kind.ensures.first)
          (passed _ _ _ (passed _ _ _ refl (ap (faults_in s k) (sym c.expr.ensures) ∙ c.in_ok-left_kind.ensures.none))
          (ap (left_demand o) left ∙ c.in_ok-demand_left.ensures.none));
    })

pub part-returns : goal.part-returns
part-returns t c =
    let s = c.args.self.now.service.now in let k = c.args.locals.now in
    record {
      none = both _ _ (ap (faults_in s k) (sym c.expr.ensures) ∙ c.in_ok-found.ensures.none)
          (ap (demand c.args.kind) (ap (kind_of s k) (sym c.expr.ensures) ∙ c.in_ok-found.ensures.kind) ∙ c.in_ok-demand.ensures.none);
      kind = refl;
      first = tt;
    }
