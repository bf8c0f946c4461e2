use Rattle.std.proofs.Common.{◌++◌, ap, ◌∙◌}
use Rattle.std.specs.Prelude.{reverse}
use Rattle.bw_world.proofs.Restored.{turned_more}
use Rattle.bw_world.proofs.restoring.turned_round.Goals as goal

pub loop-one-preserved : goal.loop-one-preserved
loop-one-preserved c =
    ap (λ ys. reverse c.pop.new.self ++ ys) c.in_ok-push.ensures
    ∙ turned_more c.pop.new.self c.loop-one.left c.loop-one.list (reverse c.args.live) c.in-Some.one c.loop-one.invariant c.in-Some.ensures
