use Rattle.bw_recall.proofs.Begun.{starts_grown}
use Rattle.bw_recall.proofs.starting.hold_saved.Goals as goal

pub returns-in-Ok-clause-starts : goal.returns-in-Ok-clause-starts
returns-in-Ok-clause-starts g c =
    starts_grown c.args.start c.args.window.now c.grow.new.self c.hold_grown.new.window (g.S.Channel.left c.args.source.now)
    (g.S.Channel.left c.hold_grown.new.source) c.hold_grown.result c.grow.ensures.bytes c.grow.ensures.ended c.hold_grown.ensures.starts
