use Rattle.std.proofs.Common.{◌≡◌, length, refl, ap, ◌∙◌, subst, arith}
use Rattle.bw_keeping.specs.Served.{view}
use Rattle.bw_keeping.specs.Steps.{GivesBackAll, desk, unanswered}
use Rattle.bw_keeping.proofs.Counting.{none_out, one_longer, one_out}
use Rattle.bw_keeping.proofs.Fitting.{fits_more, none_fits}
use Rattle.bw_keeping.proofs.Arriving.{one_taken}
use Rattle.bw_keeping.proofs.Ending.{ends_full, ends_none, over_door, over_finish, over_journal}
use Rattle.bw_keeping.proofs.ServedSoFar.{given_so, made_room, none_taken, sight}
use Rattle.bw_keeping.proofs.serving.serve_kept.Goals as goal

pub links-init : goal.links-init
links-init g c =
    let room = c.args.room.now in
    let size : length room.queue.links.items ≡ 0 = ap length c.requires.queue in
    record {
      taken = none_taken g.D.Link.Channel c.args.formats.now c.args.world.now.service
          (sight c.args.world.now (g.K.Keys.coming c.args.keys.now) (g.D.Door.coming c.args.door.now) c.args.steps.now)
          (desk (g.D.Door.returned c.args.door.now) (g.J.Journal.deeds c.args.journal.now) room.group.bytes room.group.sum room.queue.links.items)
          c.requires.bytes c.requires.queue;
      fit = none_fits c.args.world.now.service room.queue.links.items c.requires.queue;
      out = omega (arith, size);
      sound = c.requires.sound;
      journal = refl;
      door = refl;
      asked = refl;
      service = refl;
    }

pub returns-in-Err-clause-serves : goal.returns-in-Err-clause-serves
returns-in-Err-clause-serves g c =
    let room = c.links.room in
    let later = c.make_room.new.room in
    over_journal g.D.Link.Channel c.args.formats.now c.args.world.now.service c.links.turn c.args.most
    (view c.args.world.now (g.K.Keys.coming c.args.keys.now) (g.D.Door.coming c.args.door.now) (g.D.Door.returned c.args.door.now)
    (g.J.Journal.deeds c.args.journal.now) c.args.room.now.group.sum c.args.steps.now)
    c.links.world (g.K.Keys.coming c.links.keys) (g.D.Door.coming c.links.door) (g.D.Door.coming c.make_room.new.door) c.links.steps
    (desk (g.D.Door.returned c.links.door) (g.J.Journal.deeds c.links.journal) room.group.bytes room.group.sum room.queue.links.items)
    (desk (g.D.Door.returned c.make_room.new.door) (g.J.Journal.deeds c.make_room.new.journal) later.group.bytes later.group.sum
    later.queue.links.items)
    c.links.invariant.taken (omega (arith, c.links-test.true)) c.in-Err.ensures.closes (λ rest told. c.in-Err.ensures.coming ∙ told)

pub returns-in-Err-next_link-clause-serves : goal.returns-in-Err-next_link-clause-serves
returns-in-Err-next_link-clause-serves g c =
    let room = c.links.room in
    let mid = c.make_room.new.room in
    let world = c.links.world in
    let keys = g.K.Keys.coming c.links.keys in
    let before = desk (g.D.Door.returned c.links.door) (g.J.Journal.deeds c.links.journal) room.group.bytes room.group.sum room.queue.links.items in
    let after = desk (g.D.Door.returned c.make_room.new.door) (g.J.Journal.deeds c.make_room.new.journal) mid.group.bytes mid.group.sum
    mid.queue.links.items in
    let was = view c.args.world.now (g.K.Keys.coming c.args.keys.now) (g.D.Door.coming c.args.door.now) (g.D.Door.returned c.args.door.now)
    (g.J.Journal.deeds c.args.journal.now) c.args.room.now.group.sum c.args.steps.now in
    over_door g.D.Link.Channel c.args.formats.now c.args.world.now.service c.links.turn c.args.most was
    world keys (g.D.Door.coming c.make_room.new.door) (g.D.Door.coming c.give_up_all.new.door) c.links.steps after
    (desk (g.D.Door.returned c.give_up_all.new.door) (g.J.Journal.deeds c.make_room.new.journal) mid.group.bytes mid.group.sum
    c.give_up_all.new.queue.links.items)
    (made_room g.D.Link.Channel c.args.formats.now c.args.world.now.service c.links.turn was world keys (g.D.Door.coming c.links.door)
    (g.D.Door.coming c.make_room.new.door) c.links.steps world.service before after c.links.invariant.taken
    c.links.invariant.service c.in-Ok.ensures.flushes c.in-Ok.ensures.coming)
    (omega (arith, c.links-test.true))
    (record {
      deeds = refl;
      returned = subst (λ b. GivesBackAll b (g.D.Door.returned c.give_up_all.new.door) (unanswered g.D.Link.Channel mid.queue.links.items))
          c.in-Err-next_link.ensures.returned c.give_up_all.ensures.given;
      waiting = c.give_up_all.ensures.none;
    })
    (◌∙◌ {a = g.D.Door.coming c.give_up_all.new.door} c.give_up_all.ensures.coming c.in-Err-next_link.ensures.kept)

pub finish-requires-clause-out : goal.finish-requires-clause-out
finish-requires-clause-out g c =
    let same = none_out _ (g.D.WideDoor.out c.next_link.new.self) c.in-Ok-None.field-0 c.in-Ok-None.field-0-is c.in-Ok-None.ensures.out in
    omega (arith, same, c.in-Ok.ensures.out)

pub returns-in-Ok-None-clause-serves : goal.returns-in-Ok-None-clause-serves
returns-in-Ok-None-clause-serves g c =
    let room = c.links.room in
    let mid = c.make_room.new.room in
    let last = c.finish.new.room in
    let world = c.links.world in
    let keys = g.K.Keys.coming c.links.keys in
    let channel = g.D.Link.Channel in
    let formats = c.args.formats.now in
    let service = c.args.world.now.service in
    let deeds = g.J.Journal.deeds c.make_room.new.journal in
    let before = desk (g.D.Door.returned c.links.door) (g.J.Journal.deeds c.links.journal) room.group.bytes room.group.sum room.queue.links.items in
    let after = desk (g.D.Door.returned c.make_room.new.door) deeds mid.group.bytes mid.group.sum mid.queue.links.items in
    let was = view c.args.world.now (g.K.Keys.coming c.args.keys.now) (g.D.Door.coming c.args.door.now) (g.D.Door.returned c.args.door.now)
    (g.J.Journal.deeds c.args.journal.now) c.args.room.now.group.sum c.args.steps.now in
    over_finish channel formats service c.links.turn c.args.most was world keys (g.D.Door.coming c.make_room.new.door)
    (g.D.Door.coming c.finish.new.door) c.links.steps world.service
    (desk (g.D.Door.returned c.next_link.new.self) deeds mid.group.bytes mid.group.sum mid.queue.links.items)
    (desk (g.D.Door.returned c.finish.new.door) (g.J.Journal.deeds c.finish.new.journal) last.group.bytes last.group.sum last.queue.links.items)
    c.finish.result
    (given_so channel formats service c.links.turn was (sight world keys (g.D.Door.coming c.make_room.new.door) c.links.steps)
    (g.D.Door.returned c.make_room.new.door) (g.D.Door.returned c.next_link.new.self) deeds mid.group.bytes mid.group.sum mid.queue.links.items
    (made_room channel formats service c.links.turn was world keys (g.D.Door.coming c.links.door) (g.D.Door.coming c.make_room.new.door) c.links.steps
    world.service before after c.links.invariant.taken c.links.invariant.service c.in-Ok.ensures.flushes
    c.in-Ok.ensures.coming)
    c.in-Ok-None.ensures.returned)
    c.links.invariant.service c.finish.ensures.finishes (omega (arith, c.links-test.true))
    (ends_none channel formats service c.links.turn c.args.most (g.D.Door.coming c.make_room.new.door) (g.D.Door.coming c.next_link.new.self)
    (g.D.Door.coming c.finish.new.door) c.in-Ok-None.field-0 c.in-Ok-None.field-0-is c.in-Ok-None.ensures.arrived c.finish.ensures.coming)

pub links-preserved : goal.links-preserved
links-preserved g c =
    let room = c.links.room in
    let mid = c.make_room.new.room in
    let next = c.take_in.new.self in
    let world = c.links.world in
    let keys = g.K.Keys.coming c.links.keys in
    let channel = g.D.Link.Channel in
    let formats = c.args.formats.now in
    let service = c.args.world.now.service in
    let deeds = g.J.Journal.deeds c.make_room.new.journal in
    let held = c.links.invariant in
    let made = c.in-Ok.ensures in
    let came = c.in-Ok-Some.ensures in
    let taken = c.take_in.ensures.taken in
    let before = desk (g.D.Door.returned c.links.door) (g.J.Journal.deeds c.links.journal) room.group.bytes room.group.sum room.queue.links.items in
    let after = desk (g.D.Door.returned c.make_room.new.door) deeds mid.group.bytes mid.group.sum mid.queue.links.items in
    let was = view c.args.world.now (g.K.Keys.coming c.args.keys.now) (g.D.Door.coming c.args.door.now) (g.D.Door.returned c.args.door.now)
    (g.J.Journal.deeds c.args.journal.now) c.args.room.now.group.sum c.args.steps.now in
    let more = one_out (g.D.WideDoor.out c.make_room.new.door) (g.D.WideDoor.out c.next_link.new.self) c.in-Ok-Some.field-0 c.in-Ok-Some.link
    c.in-Ok-Some.field-0-is came.out in
    let size = one_longer mid.queue.links.items next.queue.links.items taken.0 taken.1 in
    record {
      taken = one_taken channel formats service c.links.turn was (sight world keys (g.D.Door.coming c.make_room.new.door) c.links.steps) after
          mid.group next.group c.take_in.new.world (g.D.Door.coming c.next_link.new.self) (g.D.Door.returned c.next_link.new.self) c.in-Ok-Some.field-0
          c.in-Ok-Some.link taken.0 next.queue.links.items next.intake (g.K.Keys.coming c.take_in.new.keys) c.take_in.new.steps
          (made_room channel formats service c.links.turn was world keys (g.D.Door.coming c.links.door) (g.D.Door.coming c.make_room.new.door)
          c.links.steps world.service before after held.taken held.service made.flushes made.coming)
          c.in-Ok-Some.field-0-is came.fresh came.arrived came.returned refl refl taken.4 held.service taken.2 taken.1;
      fit = fits_more world.service c.take_in.new.world.service mid.queue.links.items next.queue.links.items taken.0 made.fit taken.3 taken.1
          c.take_in.ensures.service;
      out = omega (arith, size, more, made.out);
      sound = made.sound;
      journal = made.cause.quiet ∙ held.journal;
      door = came.cause.quiet ∙ made.quiet ∙ held.door;
      asked = came.asked ∙ made.asked ∙ held.asked;
      service = c.take_in.ensures.service ∙ held.service;
    }

pub returns-clause-serves : goal.returns-clause-serves
returns-clause-serves g c =
    let room = c.links.room in
    let last = c.finish-2.new.room in
    let world = c.links.world in
    let channel = g.D.Link.Channel in
    let formats = c.args.formats.now in
    let service = c.args.world.now.service in
    over_finish channel formats service c.links.turn c.args.most
    (view c.args.world.now (g.K.Keys.coming c.args.keys.now) (g.D.Door.coming c.args.door.now) (g.D.Door.returned c.args.door.now)
    (g.J.Journal.deeds c.args.journal.now) c.args.room.now.group.sum c.args.steps.now)
    world (g.K.Keys.coming c.links.keys) (g.D.Door.coming c.links.door) (g.D.Door.coming c.finish-2.new.door) c.links.steps world.service
    (desk (g.D.Door.returned c.links.door) (g.J.Journal.deeds c.links.journal) room.group.bytes room.group.sum room.queue.links.items)
    (desk (g.D.Door.returned c.finish-2.new.door) (g.J.Journal.deeds c.finish-2.new.journal) last.group.bytes last.group.sum last.queue.links.items)
    c.finish-2.result c.links.invariant.taken c.links.invariant.service c.finish-2.ensures.finishes (omega (arith, c.links.auto.turn-end))
    (ends_full channel formats service c.links.turn c.args.most (g.D.Door.coming c.links.door) (g.D.Door.coming c.finish-2.new.door)
    (omega (arith, c.links.auto.turn-end, c.links-test.false)) c.finish-2.ensures.coming)
