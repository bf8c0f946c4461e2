use Rattle.std.proofs.Common.{◌≤◌, map, refl, subst, ap, arith, ◌∙◌}
use Rattle.bw_eval.specs.View.{values}
use Rattle.bw_eval.proofs.Lookups.{pair, weights_reach}
use Rattle.bw_meaning.specs.Values.{weights}
use Rattle.bw_eval.proofs.values.Values.weight.Goals as goal

abbrev pub returns-in_err-weight-clause-none : goal.returns-in_err-weight-clause-none
returns-in_err-weight-clause-none c none =
    let reach = weights_reach _ _ _ c.variable-item.is c.loop-variable-test.true in
    let great = c.in_err-weight.ensures.none refl in
    subst (λ l. 18446744073709551616 ≤ weights (values l)) (ap (map pair) c.deref-variable-items.ensures.value ∙ c.self.view_is) (omega (arith, reach, great))

abbrev pub returns-in_err-total-clause-none : goal.returns-in_err-total-clause-none
returns-in_err-total-clause-none c none =
    let reach = weights_reach _ _ _ c.variable-item.is c.loop-variable-test.true in
    let over = c.in_err-total.ensures in
    let own = c.in_ok-weight.ensures.some in
    let before = c.loop-variable.invariant in
    subst (λ l. 18446744073709551616 ≤ weights (values l)) (ap (map pair) c.deref-variable-items.ensures.value ∙ c.self.view_is)
    (omega (arith, reach, over, own, before))
