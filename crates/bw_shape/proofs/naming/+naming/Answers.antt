use Rattle.std.proofs.Common.{take, ap, sym, subst, arith}
use Rattle.bw_schema.specs.Needs.{needs_size, nothing}
use Rattle.bw_schema.specs.NeedsView.{needs, before_need}
use Rattle.bw_schema.proofs.NeedsLaws.{formula_le-size}
use Rattle.bw_shape.specs.Formulas.{Names}
use Rattle.bw_shape.proofs.PairsNamed.{needs_take, names_then}
use Rattle.bw_shape.proofs.naming.+naming.Goals as goal

pub name_formulas-name_formula-requires : goal.name_formulas-name_formula-requires
name_formulas-name_formula-requires t c =
    let s = formula_le-size c.as_slice-formula-items.result.now c.loop-formula.formula-index c.formula-item.result c.formula-item.is c.loop-formula-test.true in
    omega (arith, s, ap needs_size c.as_slice-formula-items.ensures)

pub name_formulas-loop-formula-preserved : goal.name_formulas-loop-formula-preserved
name_formulas-loop-formula-preserved t c =
    let xs = c.as_slice-formula-items.result.now in
    let i = c.loop-formula.formula-index in
    subst (λ n. Names c.args.tags.now c.name_formula.new.tags c.args.pairs.now.items c.name_formula.new.pairs.items n)
    (sym (needs_take xs i c.formula-item.result c.formula-item.is c.loop-formula-test.true))
    (names_then (needs (take i xs)) (before_need c.formula-item.result nothing) c.loop-formula.invariant c.in_ok-name_formula.ensures)
