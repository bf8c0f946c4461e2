use Rattle.std.proofs.Common.{refl}
use Rattle.bigwig.specs.Keeping.Keeps.{no_line, no_port}
use Rattle.bigwig.specs.Lent.{seen_of}
use Rattle.bigwig.proofs.Beside.{links_kept}
use Rattle.bigwig.proofs.Replies.{outside_same}
use Rattle.bigwig.proofs.beginning.keep_port.Goals as goal

pub returns-in-Ok-print_serving-clause-serves : goal.returns-in-Ok-print_serving-clause-serves
returns-in-Ok-print_serving-clause-serves g c ruled m is stands fit =
    let x = c.keep_links.ensures.serves in
    links_kept ruled m c.args.server.now.world c.keep_links.new.server.world c.args.server.now.formats c.args.place.port c.args.place.most
    c.args.room.now.group.sum c.keep_links.new.room.group.sum
    (record (seen_of g.F.Files g.J.Journals g.D.Door g.K.Keys g.W.Channel c.args.lent.now) { deeds = g.I.Journal.deeds c.args.journal.now })
    (record (seen_of g.F.Files g.J.Journals g.D.Door g.K.Keys g.W.Channel c.keep_links.new.lent) { deeds = g.I.Journal.deeds c.keep_links.new.journal })
    (g.D.Door.asked c.listen.new.self) (g.W.Channel.held c.print_serving.new.out) (g.D.Door.coming c.listen.new.self)
    (g.D.Door.returned c.listen.new.self) x.0 c.keep_links.result c.in-Ok.ensures.coming c.in-Ok.ensures.returned is stands fit c.in-Ok.ensures.port
    c.keep_links.ensures.asked c.in-Ok-print_serving.ensures.writes.whole x.1 x.2

pub returns-in-Err-clause-serves : goal.returns-in-Err-clause-serves
returns-in-Err-clause-serves g c ruled m is stands fit =
    no_port refl c.in-Err.ensures.refused
    (outside_same (g.W.Channel.held c.args.lent.now.out.now) (g.K.Keys.coming c.args.lent.now.keys.now) (g.D.Door.asked c.listen.new.self) _ _ _ _
    (g.F.Files.unread c.args.lent.now.files.now) c.args.lent.now.steps.now (g.I.Journal.deeds c.args.journal.now) c.in-Err.ensures.coming
    c.in-Err.ensures.returned)

pub returns-in-Err-print_serving-clause-serves : goal.returns-in-Err-print_serving-clause-serves
returns-in-Err-print_serving-clause-serves g c ruled m is stands fit =
    no_line refl c.in-Ok.ensures.port c.in-Err-print_serving.ensures.writes.part
    (outside_same (g.W.Channel.held c.print_serving.new.out) (g.K.Keys.coming c.args.lent.now.keys.now) (g.D.Door.asked c.listen.new.self) _ _ _ _
    (g.F.Files.unread c.args.lent.now.files.now) c.args.lent.now.steps.now (g.I.Journal.deeds c.args.journal.now) c.in-Ok.ensures.coming
    c.in-Ok.ensures.returned)
