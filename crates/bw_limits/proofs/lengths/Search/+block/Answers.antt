use Rattle.bw_limits.proofs.Firsts.{looked_at, by_statements}
use Rattle.bw_limits.proofs.lengths.Search.+block.Goals as goal

pub block-returns-in-Some : goal.block-returns-in-Some
block-returns-in-Some t c =
    looked_at c.args.self.most (by_statements c.args.self.leaf) _ _ _ _ _ c.stmt-item.is c.loop-stmt-test.true c.in-Some.ensures c.loop-stmt.invariant

pub block-loop-stmt-preserved : goal.block-loop-stmt-preserved
block-loop-stmt-preserved t c =
    looked_at c.args.self.most (by_statements c.args.self.leaf) _ _ _ _ _ c.stmt-item.is c.loop-stmt-test.true c.in_default.ensures c.loop-stmt.invariant
