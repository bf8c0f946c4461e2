use Rattle.std.proofs.Common.{ap, arith}
use Rattle.bw_lang.specs.declared.stmt.Block.TheDeep.{deep-Stmt}
use Rattle.bw_lang.specs.Service.Code.{code_size}
use Rattle.bw_flow.specs.Layout.{count}
use Rattle.bw_flow.proofs.Codes.{count_more, count_upto, stmt_size_at_read}
use Rattle.bw_flow.proofs.counting.+count.Goals as goal

pub block_points-stmt_points-total-requires : goal.block_points-stmt_points-total-requires
block_points-stmt_points-total-requires size c =
    let xs = c.as_slice-stmt-items.result.now in
    let is = c.as_slice-stmt-items.ensures in
    let k = count_upto xs c.loop-stmt.stmt-index c.stmt-item.result c.stmt-item.is c.loop-stmt-test.true in
    let s = stmt_size_at_read xs c.loop-stmt.stmt-index c.stmt-item.result c.loop-stmt-test.true in
    (omega (arith, s.1, ap deep-Stmt c.stmt-item.is, ap code_size is), omega (arith, k, c.requires, ap count is))

pub block_points-overflow_add-total : goal.block_points-overflow_add-total
block_points-overflow_add-total size c =
    let xs = c.as_slice-stmt-items.result.now in
    let is = c.as_slice-stmt-items.ensures in
    let k = count_upto xs c.loop-stmt.stmt-index c.stmt-item.result c.stmt-item.is c.loop-stmt-test.true in
    omega (arith, k, c.requires, ap count is, c.loop-stmt.invariant, c.stmt_points-total.ensures)

pub block_points-loop-stmt-preserved : goal.block_points-loop-stmt-preserved
block_points-loop-stmt-preserved size c =
    omega (arith, count_more c.as_slice-stmt-items.result.now c.loop-stmt.stmt-index c.stmt-item.result c.stmt-item.is c.loop-stmt-test.true)
