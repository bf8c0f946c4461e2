use Rattle.std.proofs.Common.{rules}
use Rattle.bw_visit.specs.Exchanges.{Standing, standing}
use Rattle.bigwig.proofs.Followed.{visit_follows_to}
use Rattle.bigwig.proofs.visiting.visit_at.Goals as goal

pub returns-clause-comes : goal.returns-clause-comes
returns-clause-comes g c = λ ruled unread is.
    let old : Standing = record {
      formats = c.args.server.now.formats;
      seen = c.args.server.now.world;
      keys = g.K.Keys.coming c.args.keys.now;
      steps = c.args.steps.now;
    } in
    visit_follows_to ruled c.args.script.now old (standing g.K.Keys c.visit-end.new.host) (g.W.Channel.held c.args.out.now) (g.W.Channel.held c.visit-end.new.out)
    (g.W.Channel.held c.tell_end.new.out) c.visit-end.result c.tell_end.result unread _ _ is c.requires.name c.requires.stands c.requires.sound
    (g.met.K.Keys.fit c.args.keys.now) c.visit-end.ensures.visited c.tell_end.ensures.tells (search rules) (search rules)
