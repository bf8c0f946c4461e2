use Rattle.bw_recall.proofs.Advancing.{advances_by}
use Rattle.bw_recall.proofs.recalling.recall_next.Goals as goal

pub returns-in-Ok-clause-advances : goal.returns-in-Ok-clause-advances
returns-in-Ok-clause-advances g c =
    advances_by c.args.formats.now c.args.world.now c.recall_held.new.world c.args.sum c.args.window.now c.hold.new.self c.recall_held.new.window
    (g.S.Channel.left c.args.source.now) (g.S.Channel.left c.hold.new.source) c.recall_held.result c.in-Ok.ensures.holds c.in-Ok.ensures.filled
    c.in-Ok.ensures.ended c.recall_held.ensures.ended c.recall_held.ensures.few c.recall_held.ensures.advances
