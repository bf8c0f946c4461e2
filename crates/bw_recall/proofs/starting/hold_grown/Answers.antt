use Rattle.bw_recall.proofs.Begun.{sized}
use Rattle.bw_recall.proofs.starting.hold_grown.Goals as goal

pub returns-in-Ok-clause-starts : goal.returns-in-Ok-clause-starts
returns-in-Ok-clause-starts g c = λ unread is none.
    sized c.args.start c.args.window.now c.hold.new.self (g.S.Channel.left c.args.source.now) (g.S.Channel.left c.hold.new.source) c.in-Ok.ensures.filled
    c.in-Ok.ensures.ended unread is none c.take_saved.new.window c.args.size c.take_saved.result c.requires.size c.in-Ok.ensures.holds
    c.take_saved.ensures.ended c.take_saved.ensures.saved
