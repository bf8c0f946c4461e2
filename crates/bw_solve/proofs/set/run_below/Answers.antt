use Rattle.std.proofs.Common.{◌+◌}
use Rattle.bw_solve.proofs.Runs.{set_take}
use Rattle.bw_solve.proofs.set.run_below.Goals as goal

pub ends_below-requires : goal.ends_below-requires
ends_below-requires g c = set_take g.T.Ord.cmp (c.loop-run.run + c.loop-run.run) c.args.items.now c.requires.set
