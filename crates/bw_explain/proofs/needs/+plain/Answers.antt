use Rattle.std.proofs.Common.{arith, ap}
use Rattle.bw_schema.specs.Needs.{needs_size}
use Rattle.bw_schema.proofs.NeedsLaws.{formula_le-size}
use Rattle.bw_explain.proofs.needs.+plain.Goals as goal

pub are_plain-is_plain-requires : goal.are_plain-is_plain-requires
are_plain-is_plain-requires t c =
    let s = formula_le-size c.as_slice-formula-items.result.now c.loop-formula.formula-index c.formula-item.result c.formula-item.is c.loop-formula-test.true in
    omega (arith, s, ap needs_size c.as_slice-formula-items.ensures)
