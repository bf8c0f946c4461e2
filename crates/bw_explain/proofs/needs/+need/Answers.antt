use Rattle.std.proofs.Common.{arith, ap}
use Rattle.bw_schema.specs.Needs.{needs_size}
use Rattle.bw_schema.proofs.NeedsLaws.{formula_le-size}
use Rattle.bw_explain.proofs.needs.+need.Goals as goal

pub add_needs-add_need-requires : goal.add_needs-add_need-requires
add_needs-add_need-requires t c =
    let s = formula_le-size c.as_slice-formula-items.result.now c.loop-formula.formula-index c.formula-item.result c.formula-item.is c.loop-formula-test.true in
    omega (arith, s, ap needs_size c.as_slice-formula-items.ensures)
