use Rattle.std.proofs.Common.{refl}
use Rattle.bw_save.specs.Frozen.{loaded_of}
use Rattle.bigwig.specs.Lent.{seen_of}
use Rattle.bigwig.specs.Works.{outside}
use Rattle.bigwig.proofs.Replies.{no_port_comes, no_line_comes, serving_comes}
use Rattle.bigwig.proofs.serving.serve_port.Goals as goal

pub returns-in-Err-clause-comes : goal.returns-in-Err-clause-comes
returns-in-Err-clause-comes g c ruled u v is =
    no_port_comes ruled (loaded_of c.args.server.now.world) c.args.port c.args.most
    (record (seen_of g.F.Files g.J.Journals g.D.Door g.K.Keys g.W.Channel c.args.lent.now) { unread = u })
    _ _ _ v c.in-Err.ensures.coming c.in-Err.ensures.returned c.in-Err.ensures.refused

pub returns-in-Err-print_serving-clause-comes : goal.returns-in-Err-print_serving-clause-comes
returns-in-Err-print_serving-clause-comes g c ruled u v is =
    no_line_comes ruled (loaded_of c.args.server.now.world) c.args.port c.args.most
    (record (seen_of g.F.Files g.J.Journals g.D.Door g.K.Keys g.W.Channel c.args.lent.now) { unread = u })
    _ _ _ _ v c.in-Ok.ensures.coming c.in-Ok.ensures.returned c.in-Ok.ensures.port c.in-Err-print_serving.ensures.writes.part

pub returns-in-Ok-print_serving-clause-comes : goal.returns-in-Ok-print_serving-clause-comes
returns-in-Ok-print_serving-clause-comes g c ruled u v is =
    serving_comes ruled c.args.server.now.world c.args.server.now.formats c.args.port c.args.most
    (record (seen_of g.F.Files g.J.Journals g.D.Door g.K.Keys g.W.Channel c.args.lent.now) { unread = u })
    (outside (g.W.Channel.held c.print_serving.new.out) (g.K.Keys.coming c.serve_links.new.keys) (g.D.Door.asked c.serve_links.new.door)
    (g.D.Door.coming c.serve_links.new.door) (g.D.Door.returned c.serve_links.new.door) v c.serve_links.new.steps (g.J.Journals.deeds c.args.lent.now.journals.now))
    (g.D.Door.asked c.listen.new.self) (g.D.Door.coming c.listen.new.self) (g.D.Door.returned c.listen.new.self) c.serve_links.result
    c.in-Ok.ensures.coming c.in-Ok.ensures.returned is c.requires c.in-Ok.ensures.port c.serve_links.ensures.asked refl
    c.in-Ok-print_serving.ensures.writes.whole c.serve_links.ensures.ends
    c.serve_links.ensures.serves
