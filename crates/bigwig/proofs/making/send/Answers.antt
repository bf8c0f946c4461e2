use Rattle.std.proofs.Common.{◌∙◌, arith, sym, subst}
use Rattle.bigwig.specs.Sending.{IsSent}
use Rattle.bigwig.proofs.Sending.{way_begins, way_goes_on, way_ends}
use Rattle.bigwig.proofs.making.send.Goals as goal

pub loop-turn-init : goal.loop-turn-init
loop-turn-init g c = record {
  way = way_begins c.args.world.now c.send_one.new.world c.in_ok-first.first c.from-sent.result c.args.count c.requires.stands c.in_ok-first.ensures
      (subst (IsSent c.args.world.now c.send_one.new.world c.in_ok-first.first) (sym c.from-sent.ensures) c.in_ok-send_one.ensures.sent);
  service = c.send_one.ensures.service;
  few = omega arith;
}

pub loop-turn-preserved : goal.loop-turn-preserved
loop-turn-preserved g c = record {
  way = way_goes_on c.args.world.now.service c.loop-turn.world c.send_one-in-loop-turn.new.world c.in_ok-next.next c.loop-turn.sent c.from.result
      c.loop-turn.turn c.args.count c.loop-turn-test.true c.loop-turn.invariant.service c.in_ok-next.ensures
      (subst (IsSent c.loop-turn.world c.send_one-in-loop-turn.new.world c.in_ok-next.next) (sym c.from.ensures) c.in_ok-send_one-2.ensures.sent)
      c.loop-turn.invariant.way;
  service = c.send_one-in-loop-turn.ensures.service ∙ c.loop-turn.invariant.service;
  few = omega arith;
}

pub returns : goal.returns
returns g c =
    way_ends c.args.world.now.service c.loop-turn.world c.loop-turn.sent c.loop-turn.turn c.args.count c.loop-turn-test.false c.loop-turn.invariant.way
