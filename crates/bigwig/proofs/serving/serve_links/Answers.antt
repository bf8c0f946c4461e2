use Rattle.std.proofs.Common.{◌≡◌, ◌∙◌, refl, arith, subst, None}
use Rattle.bw_world.specs.Streams.Answers.{Answers, place}
use Rattle.bw_world.specs.Streams.Good.{RepliesAreGood}
use Rattle.bigwig.specs.Works.{outside}
use Rattle.bigwig.proofs.Links.{served_none, served_more, over_most, over_none, over_fault, shows_first, of_link}
use Rattle.bigwig.proofs.serving.serve_links.Goals as goal

pub links-init : goal.links-init
links-init g c = record {
  served = served_none c.args.server.now.formats _ (outside None (g.K.Keys.coming c.args.keys.now) (g.D.Door.asked c.args.door.now) (g.D.Door.coming c.args.door.now)
      (g.D.Door.returned c.args.door.now) None c.args.steps.now None);
  quiet = refl;
  asked = refl;
  service = refl;
  formats = refl;
}

pub returns-in-Err-clause-serves : goal.returns-in-Err-clause-serves
returns-in-Err-clause-serves g c =
    over_fault c.args.server.now.formats c.links.turn _ _ _
    (outside None (g.K.Keys.coming c.args.keys.now) (g.D.Door.asked c.args.door.now) (g.D.Door.coming c.args.door.now)
    (g.D.Door.returned c.args.door.now) None c.args.steps.now None)
    (outside None (g.K.Keys.coming c.links.keys) (g.D.Door.asked c.links.door) (g.D.Door.coming c.links.door)
    (g.D.Door.returned c.links.door) None c.links.steps None)
    (outside None (g.K.Keys.coming c.links.keys) (g.D.Door.asked c.next.new.self) (g.D.Door.coming c.next.new.self)
    (g.D.Door.returned c.next.new.self) None c.links.steps None)
    c.links-test.true c.links.invariant.served c.in-Err.ensures.kept c.in-Err.ensures.returned refl refl

pub returns-in-Ok-None-clause-serves : goal.returns-in-Ok-None-clause-serves
returns-in-Ok-None-clause-serves g c =
    over_none c.args.server.now.formats g.D.Link.Channel.left g.D.Link.Channel.held c.links.turn _ _ _
    (outside None (g.K.Keys.coming c.args.keys.now) (g.D.Door.asked c.args.door.now) (g.D.Door.coming c.args.door.now)
    (g.D.Door.returned c.args.door.now) None c.args.steps.now None)
    (outside None (g.K.Keys.coming c.links.keys) (g.D.Door.asked c.links.door) (g.D.Door.coming c.links.door)
    (g.D.Door.returned c.links.door) None c.links.steps None)
    (outside None (g.K.Keys.coming c.links.keys) (g.D.Door.asked c.next.new.self) (g.D.Door.coming c.next.new.self)
    (g.D.Door.returned c.next.new.self) None c.links.steps None)
    _ c.links-test.true c.links.invariant.served c.in-Ok-None.field-0-is c.in-Ok-None.ensures.arrived c.in-Ok-None.ensures.returned refl refl

pub returns-clause-serves : goal.returns-clause-serves
returns-clause-serves g c =
    over_most c.args.server.now.formats c.links.turn _ _ _
    (outside None (g.K.Keys.coming c.args.keys.now) (g.D.Door.asked c.args.door.now) (g.D.Door.coming c.args.door.now)
    (g.D.Door.returned c.args.door.now) None c.args.steps.now None)
    (outside None (g.K.Keys.coming c.links.keys) (g.D.Door.asked c.links.door) (g.D.Door.coming c.links.door)
    (g.D.Door.returned c.links.door) None c.links.steps None)
    c.links.invariant.served (omega (arith, c.links.auto.turn-end, c.links-test.false))

pub links-preserved : goal.links-preserved
links-preserved g c =
    let ch = g.D.Link.Channel in
    let link = c.in-Ok-Some.link in
    let after = c.answer-end.new.link in
    let from = place ch c.links.server.world c.clear.new.self link (g.K.Keys.coming c.links.keys) c.links.steps in
    let to = place ch c.answer-end.new.world c.answer-end.new.intake after (g.K.Keys.coming c.answer-end.new.keys) c.answer-end.new.steps in
    let fresh = of_link (λ l. (ch.read_faults l ≡ 0) × (ch.write_faults l ≡ 0)) c.in-Ok-Some.field-0 link c.in-Ok-Some.field-0-is c.in-Ok-Some.ensures.fresh in
    record {
      served = served_more c.args.server.now.formats ch.left ch.held c.links.turn _ c.links.server.world c.answer-end.new.world
          (outside None (g.K.Keys.coming c.args.keys.now) (g.D.Door.asked c.args.door.now) (g.D.Door.coming c.args.door.now)
          (g.D.Door.returned c.args.door.now) None c.args.steps.now None)
          (outside None (g.K.Keys.coming c.links.keys) (g.D.Door.asked c.links.door) (g.D.Door.coming c.links.door)
          (g.D.Door.returned c.links.door) None c.links.steps None)
          (outside None (g.K.Keys.coming c.answer-end.new.keys) (g.D.Door.asked c.give_back.new.self) (g.D.Door.coming c.give_back.new.self)
          (g.D.Door.returned c.give_back.new.self) None c.answer-end.new.steps None)
          (g.D.Door.coming c.next.new.self) (g.D.Door.returned c.next.new.self) c.in-Ok-Some.field-0 link
          (record { unread = ch.left after; written = ch.held after; read_faults = ch.read_faults after; write_faults = ch.write_faults after })
          from to
          c.answer-end.result
          c.links.invariant.served c.links.invariant.service c.in-Ok-Some.field-0-is c.in-Ok-Some.ensures.arrived refl c.clear.ensures refl refl refl refl
          (subst (λ f. Answers f c.links.server.world.service 1 from to c.answer-end.result) c.links.invariant.formats c.answer-end.ensures.answers)
          (subst (λ f. RepliesAreGood f c.links.server.world.service from) c.links.invariant.formats c.answer-end.ensures.pages) refl refl (shows_first _ _ _ fresh.0 c.answer-end.ensures.read_fault)
          (shows_first _ _ _ fresh.1 c.answer-end.ensures.write_fault)
          refl refl refl c.give_back.ensures.coming c.in-Ok-Some.ensures.returned c.give_back.ensures.returned;
      quiet = c.give_back.ensures.quiet ∙ c.in-Ok-Some.ensures.cause.quiet ∙ c.links.invariant.quiet;
      asked = c.give_back.ensures.asked ∙ c.in-Ok-Some.ensures.asked ∙ c.links.invariant.asked;
      service = c.answer-end.ensures.service ∙ c.links.invariant.service;
      formats = c.links.invariant.formats;
    }
