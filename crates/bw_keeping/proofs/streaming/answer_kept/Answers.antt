use Rattle.std.proofs.Common.{◌≡◌, ℕ, ◌∙◌, refl, subst, arith}
use Rattle.bw_out.specs.Causes.{Rose, Shows}
use Rattle.bw_keeping.specs.Streamed.{sight}
use Rattle.bw_keeping.specs.declared.streaming.Next.TheVariants as nexts
use Rattle.bw_keeping.proofs.StreamSoFar.{gone_more, gone_none, over_ended, over_full, over_journal, over_read, over_write, with_first}
use Rattle.bw_keeping.proofs.streaming.answer_kept.Goals as goal
use Rattle.bw_world.specs.Streams.Answers.{place}
use Rattle.bw_world.proofs.Streams.Good.{replies_are_good}

-- no fault now, and none since the first count
quiet : {p q : Type 0} {a b d : ℕ} → (p → ⊥) → (q → ⊥) → b ≡ a → Shows q b d → Shows p a d
quiet none calm e s = record { only = λ x. absurd (none x); other = λ _. s.other calm ∙ e }

-- the fault of the last message, and none before it
rises : {p q : Type 0} {a b d : ℕ} → p → q → b ≡ a → Shows q b d → Shows p a d
rises {d = d} x y e s = record { only = λ _. subst (λ (n : ℕ). Rose n d) e (s.only y); other = λ none. absurd (none x) }

pub messages-init : goal.messages-init
messages-init g c = record {
  few = omega arith;
  stands = gone_none c.args.handler.now.formats.now c.args.handler.now.world.now.service (g.D.Door.returned c.args.door.now) _;
  sound = c.requires.sound;
  ready = c.requires.ready;
  read_faults = refl;
  write_faults = refl;
  journal_faults = refl;
  same_link = g.met.C.Source.same_refl c.args.link.now;
  same = (refl, refl, refl, refl);
  service = refl;
}

pub messages-preserved : goal.messages-preserved
messages-preserved g c =
    let held = c.messages.invariant in
    let one = c.in-Answered.ensures in
    record {
      few = omega (arith, one.few);
      stands = gone_more c.args.handler.now.formats.now c.args.handler.now.world.now.service (g.D.Door.returned c.args.door.now) c.messages.turn
          c.messages.count c.in-Answered.want _ _ _ held.stands
          (with_first c.messages.handler.formats.now c.args.handler.now.formats.now c.messages.handler.world.now.service c.args.handler.now.world.now.service
          (g.D.Door.returned c.args.door.now) _ _ (nexts.Answered c.in-Answered.want) held.same.3 held.service one.goes);
      sound = one.sound (λ e. cc);
      ready = one.ready (λ e. cc);
      read_faults = one.read_fault.other (λ e. cc) ∙ held.read_faults;
      write_faults = one.write_fault.other (λ e. cc) ∙ held.write_faults;
      journal_faults = one.journal_fault.other (λ e. cc) ∙ held.journal_faults;
      same_link = g.met.C.Source.same_trans _ _ _ held.same_link one.same_link;
      same = (one.same.0 ∙ held.same.0, one.same.1 ∙ held.same.1, one.same.2 ∙ held.same.2, one.same.3 ∙ held.same.3);
      service = one.service ∙ held.service;
    }

pub returns-in-Ended-clause-streams : goal.returns-in-Ended-clause-streams
returns-in-Ended-clause-streams g c =
    over_ended c.args.handler.now.formats.now c.args.handler.now.world.now.service (g.D.Door.returned c.args.door.now) c.args.most c.messages.turn
    c.messages.count _ _ c.messages.invariant.stands _ c.messages-test.true
    (with_first c.messages.handler.formats.now c.args.handler.now.formats.now c.messages.handler.world.now.service c.args.handler.now.world.now.service
    (g.D.Door.returned c.args.door.now) _ _ nexts.Ended c.messages.invariant.same.3 c.messages.invariant.service c.in-Ended.ensures.goes)

pub returns-in-ReadFault-clause-streams : goal.returns-in-ReadFault-clause-streams
returns-in-ReadFault-clause-streams g c =
    over_read c.args.handler.now.formats.now c.args.handler.now.world.now.service (g.D.Door.returned c.args.door.now) c.args.most c.messages.turn
    c.messages.count _ _ c.messages.invariant.stands _ c.messages-test.true
    (with_first c.messages.handler.formats.now c.args.handler.now.formats.now c.messages.handler.world.now.service c.args.handler.now.world.now.service
    (g.D.Door.returned c.args.door.now) _ _ nexts.ReadFault c.messages.invariant.same.3 c.messages.invariant.service c.in-ReadFault.ensures.goes)

pub returns-in-WriteFault-clause-streams : goal.returns-in-WriteFault-clause-streams
returns-in-WriteFault-clause-streams g c =
    over_write c.args.handler.now.formats.now c.args.handler.now.world.now.service (g.D.Door.returned c.args.door.now) c.args.most c.messages.turn
    c.messages.count _ _ c.messages.invariant.stands _ c.messages-test.true
    (with_first c.messages.handler.formats.now c.args.handler.now.formats.now c.messages.handler.world.now.service c.args.handler.now.world.now.service
    (g.D.Door.returned c.args.door.now) _ _ nexts.WriteFault c.messages.invariant.same.3 c.messages.invariant.service c.in-WriteFault.ensures.goes)

pub returns-in-JournalFault-clause-streams : goal.returns-in-JournalFault-clause-streams
returns-in-JournalFault-clause-streams g c =
    let formats = c.args.handler.now.formats.now in
    let service = c.args.handler.now.world.now.service in
    let returned = g.D.Door.returned c.args.door.now in
    let was = c.messages.handler in
    let now = c.answer_next.new.handler in
    let old = sight (place g.C.Channel was.world.now c.messages.room.intake c.messages.link (g.K.Keys.coming was.keys.now) was.steps.now)
    (g.J.Journal.deeds c.messages.journal) c.messages.room.group.sum in
    let new = sight (place g.C.Channel now.world.now c.answer_next.new.room.intake c.answer_next.new.link (g.K.Keys.coming now.keys.now) now.steps.now)
    (g.J.Journal.deeds c.answer_next.new.journal) c.answer_next.new.room.group.sum in
    over_journal formats service returned c.args.most c.messages.turn c.messages.count _ old c.messages.invariant.stands new c.messages-test.true
    (with_first was.formats.now formats was.world.now.service service returned old new nexts.JournalFault c.messages.invariant.same.3
    c.messages.invariant.service c.in-JournalFault.ensures.goes)

pub returns-clause-streams : goal.returns-clause-streams
returns-clause-streams g c =
    over_full c.args.handler.now.formats.now c.args.handler.now.world.now.service (g.D.Door.returned c.args.door.now) c.args.most c.messages.turn
    c.messages.count _ _ c.messages.invariant.stands (omega (arith, c.messages.auto.turn-end, c.messages-test.false))

pub returns-in-Ended-clause-pages : goal.returns-in-Ended-clause-pages
returns-in-Ended-clause-pages g c = replies_are_good c.args.handler.now.formats.now _ _

pub returns-in-ReadFault-clause-pages : goal.returns-in-ReadFault-clause-pages
returns-in-ReadFault-clause-pages g c = replies_are_good c.args.handler.now.formats.now _ _

pub returns-in-WriteFault-clause-pages : goal.returns-in-WriteFault-clause-pages
returns-in-WriteFault-clause-pages g c = replies_are_good c.args.handler.now.formats.now _ _

pub returns-in-JournalFault-clause-pages : goal.returns-in-JournalFault-clause-pages
returns-in-JournalFault-clause-pages g c = replies_are_good c.args.handler.now.formats.now _ _

pub returns-clause-pages : goal.returns-clause-pages
returns-clause-pages g c = replies_are_good c.args.handler.now.formats.now _ _

pub returns-in-Ended-clause-read_fault : goal.returns-in-Ended-clause-read_fault
returns-in-Ended-clause-read_fault g c = quiet (λ e. cc) (λ e. cc) c.messages.invariant.read_faults c.in-Ended.ensures.read_fault

pub returns-in-Ended-clause-write_fault : goal.returns-in-Ended-clause-write_fault
returns-in-Ended-clause-write_fault g c = quiet (λ e. cc) (λ e. cc) c.messages.invariant.write_faults c.in-Ended.ensures.write_fault

pub returns-in-Ended-clause-journal_fault : goal.returns-in-Ended-clause-journal_fault
returns-in-Ended-clause-journal_fault g c = quiet (λ e. cc) (λ e. cc) c.messages.invariant.journal_faults c.in-Ended.ensures.journal_fault

pub returns-in-Ended-clause-same_link : goal.returns-in-Ended-clause-same_link
returns-in-Ended-clause-same_link g c = g.met.C.Source.same_trans _ _ _ c.messages.invariant.same_link c.in-Ended.ensures.same_link

pub returns-in-Ended-clause-same : goal.returns-in-Ended-clause-same
returns-in-Ended-clause-same g c =
    let held = c.messages.invariant.same in
    let one = c.in-Ended.ensures.same in
    (one.0 ∙ held.0, one.1 ∙ held.1, one.2 ∙ held.2, one.3 ∙ held.3)

pub returns-in-Ended-clause-service : goal.returns-in-Ended-clause-service
returns-in-Ended-clause-service g c = c.in-Ended.ensures.service ∙ c.messages.invariant.service

pub returns-in-ReadFault-clause-read_fault : goal.returns-in-ReadFault-clause-read_fault
returns-in-ReadFault-clause-read_fault g c = rises refl refl c.messages.invariant.read_faults c.in-ReadFault.ensures.read_fault

pub returns-in-ReadFault-clause-write_fault : goal.returns-in-ReadFault-clause-write_fault
returns-in-ReadFault-clause-write_fault g c = quiet (λ e. cc) (λ e. cc) c.messages.invariant.write_faults c.in-ReadFault.ensures.write_fault

pub returns-in-ReadFault-clause-journal_fault : goal.returns-in-ReadFault-clause-journal_fault
returns-in-ReadFault-clause-journal_fault g c = quiet (λ e. cc) (λ e. cc) c.messages.invariant.journal_faults c.in-ReadFault.ensures.journal_fault

pub returns-in-ReadFault-clause-same_link : goal.returns-in-ReadFault-clause-same_link
returns-in-ReadFault-clause-same_link g c = g.met.C.Source.same_trans _ _ _ c.messages.invariant.same_link c.in-ReadFault.ensures.same_link

pub returns-in-ReadFault-clause-same : goal.returns-in-ReadFault-clause-same
returns-in-ReadFault-clause-same g c =
    let held = c.messages.invariant.same in
    let one = c.in-ReadFault.ensures.same in
    (one.0 ∙ held.0, one.1 ∙ held.1, one.2 ∙ held.2, one.3 ∙ held.3)

pub returns-in-ReadFault-clause-service : goal.returns-in-ReadFault-clause-service
returns-in-ReadFault-clause-service g c = c.in-ReadFault.ensures.service ∙ c.messages.invariant.service

pub returns-in-WriteFault-clause-read_fault : goal.returns-in-WriteFault-clause-read_fault
returns-in-WriteFault-clause-read_fault g c = quiet (λ e. cc) (λ e. cc) c.messages.invariant.read_faults c.in-WriteFault.ensures.read_fault

pub returns-in-WriteFault-clause-write_fault : goal.returns-in-WriteFault-clause-write_fault
returns-in-WriteFault-clause-write_fault g c = rises refl refl c.messages.invariant.write_faults c.in-WriteFault.ensures.write_fault

pub returns-in-WriteFault-clause-journal_fault : goal.returns-in-WriteFault-clause-journal_fault
returns-in-WriteFault-clause-journal_fault g c = quiet (λ e. cc) (λ e. cc) c.messages.invariant.journal_faults c.in-WriteFault.ensures.journal_fault

pub returns-in-WriteFault-clause-same_link : goal.returns-in-WriteFault-clause-same_link
returns-in-WriteFault-clause-same_link g c = g.met.C.Source.same_trans _ _ _ c.messages.invariant.same_link c.in-WriteFault.ensures.same_link

pub returns-in-WriteFault-clause-same : goal.returns-in-WriteFault-clause-same
returns-in-WriteFault-clause-same g c =
    let held = c.messages.invariant.same in
    let one = c.in-WriteFault.ensures.same in
    (one.0 ∙ held.0, one.1 ∙ held.1, one.2 ∙ held.2, one.3 ∙ held.3)

pub returns-in-WriteFault-clause-service : goal.returns-in-WriteFault-clause-service
returns-in-WriteFault-clause-service g c = c.in-WriteFault.ensures.service ∙ c.messages.invariant.service

pub returns-in-JournalFault-clause-read_fault : goal.returns-in-JournalFault-clause-read_fault
returns-in-JournalFault-clause-read_fault g c = quiet (λ e. cc) (λ e. cc) c.messages.invariant.read_faults c.in-JournalFault.ensures.read_fault

pub returns-in-JournalFault-clause-write_fault : goal.returns-in-JournalFault-clause-write_fault
returns-in-JournalFault-clause-write_fault g c = quiet (λ e. cc) (λ e. cc) c.messages.invariant.write_faults c.in-JournalFault.ensures.write_fault

pub returns-in-JournalFault-clause-journal_fault : goal.returns-in-JournalFault-clause-journal_fault
returns-in-JournalFault-clause-journal_fault g c = rises refl refl c.messages.invariant.journal_faults c.in-JournalFault.ensures.journal_fault

pub returns-in-JournalFault-clause-same_link : goal.returns-in-JournalFault-clause-same_link
returns-in-JournalFault-clause-same_link g c = g.met.C.Source.same_trans _ _ _ c.messages.invariant.same_link c.in-JournalFault.ensures.same_link

pub returns-in-JournalFault-clause-same : goal.returns-in-JournalFault-clause-same
returns-in-JournalFault-clause-same g c =
    let held = c.messages.invariant.same in
    let one = c.in-JournalFault.ensures.same in
    (one.0 ∙ held.0, one.1 ∙ held.1, one.2 ∙ held.2, one.3 ∙ held.3)

pub returns-in-JournalFault-clause-service : goal.returns-in-JournalFault-clause-service
returns-in-JournalFault-clause-service g c = c.in-JournalFault.ensures.service ∙ c.messages.invariant.service
