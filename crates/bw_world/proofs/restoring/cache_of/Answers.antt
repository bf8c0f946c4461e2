use Rattle.bw_world.proofs.Restored.{filled_more}
use Rattle.bw_world.proofs.restoring.cache_of.Goals as goal

pub loop-one-preserved : goal.loop-one-preserved
loop-one-preserved c =
    filled_more c.requires.apart.0 c.args.live c.loop-one.left c.pop.new.self c.in-Some-pop.one c.loop-one.cache c.put.new.self c.requires.apart.1
    c.requires.few c.loop-one.invariant c.in-Some-pop.ensures c.in_ok-put.ensures.entries

pub loop-one-preserved-in_ok-put : goal.loop-one-preserved-in_ok-put
loop-one-preserved-in_ok-put c =
    filled_more c.requires.apart.0 c.args.live c.loop-one.left c.pop.new.self c.in-Some-pop.one c.loop-one.cache c.put.new.self c.requires.apart.1
    c.requires.few c.loop-one.invariant c.in-Some-pop.ensures c.in_ok-put.ensures.entries
