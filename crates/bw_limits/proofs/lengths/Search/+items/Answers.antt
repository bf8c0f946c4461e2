use Rattle.bw_limits.proofs.Firsts.{looked_at, by_items}
use Rattle.bw_limits.proofs.lengths.Search.+items.Goals as goal

pub items-returns-in-Some : goal.items-returns-in-Some
items-returns-in-Some t c =
    looked_at c.args.self.most (by_items c.args.gaps.now) _ _ _ _ _ c.item-item.is c.loop-item-test.true c.in-Some.ensures c.loop-item.invariant

pub items-loop-item-preserved : goal.items-loop-item-preserved
items-loop-item-preserved t c =
    looked_at c.args.self.most (by_items c.args.gaps.now) _ _ _ _ _ c.item-item.is c.loop-item-test.true c.in_default.ensures c.loop-item.invariant
