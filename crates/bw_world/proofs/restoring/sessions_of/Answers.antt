use Rattle.std.proofs.Common.{sym, ◌∙◌}
use Rattle.bw_world.proofs.Restored.{emptied_more, emptied_all}
use Rattle.bw_world.proofs.restoring.sessions_of.Goals as goal

pub loop-one-preserved : goal.loop-one-preserved
loop-one-preserved c =
    rw (c.pop_lru.ensures.entries, c.in_ok-push.ensures)
    (emptied_more c.loop-one.left.entries c.loop-one.list c.args.cache.entries _ c.loop-one.invariant (sym c.pop_lru.ensures.value ∙ c.in-Some.is))

pub returns : goal.returns
returns c =
    emptied_all c.loop-one.left.entries c.loop-one.list c.args.cache.entries c.loop-one.invariant (sym c.pop_lru.ensures.value ∙ c.in_default.is)
