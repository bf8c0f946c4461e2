use Rattle.std.proofs.Common.{◌∙◌, refl, rules, arith}
use Rattle.bw_world.specs.declared.outcomes.Next.TheVariants as nexts
use Rattle.bw_world.proofs.Streams.Good.{replies_are_good}
use Rattle.bw_world.proofs.Streams.Streams.{stands_none, stands_more, over_full, over_ended, over_read, over_write, at_service}
use Rattle.bw_world.proofs.stream.answer.Goals as goal

pub messages-init : goal.messages-init
messages-init g c = record { few = omega arith; stands = stands_none c.args.formats.now _ _; read_faults = refl; write_faults = refl; same = search rules; service = refl }

pub returns-in-Ended-clause-answers : goal.returns-in-Ended-clause-answers
returns-in-Ended-clause-answers g c =
    over_ended c.args.formats.now c.args.world.now.service _ c.messages.turn c.messages.count _ _ _ c.messages-test.true c.messages.invariant.stands
    (at_service c.args.formats.now _ _ _ _ nexts.Ended c.messages.invariant.service c.in-Ended.ensures.goes)

pub returns-in-ReadFault-clause-answers : goal.returns-in-ReadFault-clause-answers
returns-in-ReadFault-clause-answers g c =
    over_read c.args.formats.now c.args.world.now.service _ c.messages.turn c.messages.count _ _ _ c.messages-test.true c.messages.invariant.stands
    (at_service c.args.formats.now _ _ _ _ nexts.ReadFault c.messages.invariant.service c.in-ReadFault.ensures.goes)

pub returns-in-WriteFault-clause-answers : goal.returns-in-WriteFault-clause-answers
returns-in-WriteFault-clause-answers g c =
    over_write c.args.formats.now c.args.world.now.service _ c.messages.turn c.messages.count _ _ _ c.messages-test.true c.messages.invariant.stands
    (at_service c.args.formats.now _ _ _ _ nexts.WriteFault c.messages.invariant.service c.in-WriteFault.ensures.goes)

pub messages-preserved : goal.messages-preserved
messages-preserved g c = record {
  few = omega (arith, c.in-Answered.ensures.few);
  stands = stands_more c.args.formats.now c.args.world.now.service c.messages.turn c.messages.count c.in-Answered.want _ _ _ c.messages.invariant.stands
      (at_service c.args.formats.now _ _ _ _ (nexts.Answered c.in-Answered.want) c.messages.invariant.service c.in-Answered.ensures.goes);
  read_faults = c.in-Answered.ensures.read_fault.other (λ e. cc) ∙ c.messages.invariant.read_faults;
  write_faults = c.in-Answered.ensures.write_fault.other (λ e. cc) ∙ c.messages.invariant.write_faults;
  same = search rules;
  service = c.in-Answered.ensures.service ∙ c.messages.invariant.service;
}

pub returns-clause-answers : goal.returns-clause-answers
returns-clause-answers g c = over_full c.args.formats.now c.args.world.now.service _ c.messages.turn c.messages.count _ _ c.messages.invariant.stands
    (omega (arith, c.messages.auto.turn-end, c.messages-test.false))

pub returns-in-Ended-clause-pages : goal.returns-in-Ended-clause-pages
returns-in-Ended-clause-pages g c = replies_are_good c.args.formats.now _ _

pub returns-in-ReadFault-clause-pages : goal.returns-in-ReadFault-clause-pages
returns-in-ReadFault-clause-pages g c = replies_are_good c.args.formats.now _ _

pub returns-in-WriteFault-clause-pages : goal.returns-in-WriteFault-clause-pages
returns-in-WriteFault-clause-pages g c = replies_are_good c.args.formats.now _ _

pub returns-clause-pages : goal.returns-clause-pages
returns-clause-pages g c = replies_are_good c.args.formats.now _ _
