use Rattle.bw_limits.proofs.Firsts.{looked_at, by_pairs}
use Rattle.bw_limits.proofs.lengths.Search.+expression.Goals as goal

pub pairs-returns-in-Some : goal.pairs-returns-in-Some
pairs-returns-in-Some t c =
    looked_at c.args.self.most (by_pairs c.args.self.leaf) _ _ _ _ _ c.pair-item.is c.loop-pair-test.true c.in-Some.ensures c.loop-pair.invariant

pub pairs-loop-pair-preserved : goal.pairs-loop-pair-preserved
pairs-loop-pair-preserved t c =
    looked_at c.args.self.most (by_pairs c.args.self.leaf) _ _ _ _ _ c.pair-item.is c.loop-pair-test.true c.in_default.ensures c.loop-pair.invariant
