use Rattle.std.proofs.Common.{List, ◌++◌, arith, ap, sym, ◌∙◌}
use Rattle.bw_schema.specs.Forms.{one}
use Rattle.bw_schema.specs.Marks.{Mark, used_in}
use Rattle.bw_schema.proofs.Loops.{used_more}
use Rattle.bw_schema.specs.Needs.{needs_size}
use Rattle.bw_schema.proofs.NeedsLaws.{formula_le-size}
use Rattle.bw_schema.proofs.claims.+uses.Goals as goal

pub use_formulas-use_formula-requires : goal.use_formulas-use_formula-requires
use_formulas-use_formula-requires t c =
    let s = formula_le-size c.as_slice-formula-items.result.now c.loop-formula.formula-index c.formula-item.result c.formula-item.is c.loop-formula-test.true in
    omega (arith, s, ap needs_size c.as_slice-formula-items.ensures)

pub use_formulas-loop-formula-preserved : goal.use_formulas-loop-formula-preserved
use_formulas-loop-formula-preserved t c =
    c.in_ok-use_formula.ensures ∙ ap (λ (m : List Mark). m ++ used_in c.args.rule (one c.formula-item.result)) c.loop-formula.invariant
    ∙ sym (used_more c.args.rule c.as_slice-formula-items.result.now c.loop-formula.formula-index c.formula-item.result c.args.marks.now c.formula-item.is
    c.loop-formula-test.true)
