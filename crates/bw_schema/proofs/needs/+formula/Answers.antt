use Rattle.std.proofs.Common.{arith, ap, sym, ◌∙◌}
use Rattle.bw_schema.specs.Needs.{nothing, append_needs, needs_size}
use Rattle.bw_schema.specs.NeedsView.{before_need}
use Rattle.bw_schema.proofs.Loops.{needs_read}
use Rattle.bw_schema.proofs.NeedsLaws.{formula_le-size}
use Rattle.bw_schema.proofs.needs.+formula.Goals as goal

pub Formulas::copy-copy-requires : goal.Formulas::copy-copy-requires
Formulas::copy-copy-requires t c =
    let s = formula_le-size c.as_slice-formula-items.result.now c.loop-formula.formula-index c.formula-item.result c.formula-item.is c.loop-formula-test.true in
    omega (arith, s, ap needs_size c.as_slice-formula-items.ensures)

pub Formulas::copy-loop-formula-preserved : goal.Formulas::copy-loop-formula-preserved
Formulas::copy-loop-formula-preserved t c =
    c.in_ok-push.ensures.ok ∙ (λ k. append_needs (c.loop-formula.invariant k) (before_need (c.in_ok-copy.ensures k) nothing))
    ∙ sym (needs_read c.as_slice-formula-items.result.now c.loop-formula.formula-index c.formula-item.result c.formula-item.is c.loop-formula-test.true)
