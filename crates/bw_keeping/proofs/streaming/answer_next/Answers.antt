use Rattle.std.proofs.Common.{◌≡◌, ℕ, ◌∙◌, refl, subst}
use Rattle.std.specs.Io.KnownBytes.{Appends}
use Rattle.bw_out.specs.Causes.{Rose, Shows}
use Rattle.bw_out.specs.Writes.{AppendsPart}
use Rattle.bw_world.specs.Streams.Courses.{bytes_by}
use Rattle.bw_keeping.proofs.StreamTurns.{answer_breaks, answer_goes, end_goes, read_goes, refusal_breaks, refusal_goes, unkept_goes}
use Rattle.bw_keeping.proofs.streaming.answer_next.Goals as goal

-- no fault, and the count stands
still : {p : Type 0} {a d : ℕ} → (p → ⊥) → d ≡ a → Shows p a d
still none e = record { only = λ x. absurd (none x); other = λ _. e }

-- a fault, and the count rose
rises : {p : Type 0} {a b d : ℕ} → p → b ≡ a → Rose b d → Shows p a d
rises {d = d} x e r = record { only = λ _. subst (λ (n : ℕ). Rose n d) e r; other = λ none. absurd (none x) }

pub returns-in-End-clause-goes : goal.returns-in-End-clause-goes
returns-in-End-clause-goes g c =
    end_goes c.args.handler.now.formats.now c.args.handler.now.world.now.service (g.D.Door.returned c.args.door.now) _ _ c.args.room.now.group
    c.take_kept-taken.new.group (g.J.Journal.deeds c.args.journal.now) c.in-End.ensures.takes c.in-End.ensures.reads.held c.in-End.ensures.others

pub returns-in-ReadFault-clause-goes : goal.returns-in-ReadFault-clause-goes
returns-in-ReadFault-clause-goes g c =
    read_goes c.args.handler.now.formats.now c.args.handler.now.world.now.service (g.D.Door.returned c.args.door.now) _ _ c.args.room.now.group
    c.take_kept-taken.new.group (g.J.Journal.deeds c.args.journal.now) c.in-ReadFault.ensures.takes c.in-ReadFault.ensures.reads.held
    c.in-ReadFault.ensures.others

pub returns-in-Ok-clause-goes : goal.returns-in-Ok-clause-goes
returns-in-Ok-clause-goes g c =
    let held = g.C.Channel.held c.send.new.link in
    let was = g.C.Channel.held c.take_kept-taken.new.link in
    refusal_goes c.args.handler.now.formats.now c.args.handler.now.world.now.service (g.D.Door.returned c.args.door.now) _ _ c.args.room.now.group
    c.take_kept-taken.new.group c.in-Refused.reply (g.C.Channel.left c.send.new.link) held c.in-Refused.ensures.reads.held c.in-Ok.ensures.left
    (g.J.Journal.deeds c.args.journal.now) c.in-Refused.ensures.takes c.in-Refused.ensures.others c.in-Refused.ensures.fit.1
    (subst (λ s. Appends was held (bytes_by s c.in-Refused.reply)) c.in-Refused.ensures.service c.in-Ok.ensures.writes.whole)

pub returns-in-Err-clause-goes : goal.returns-in-Err-clause-goes
returns-in-Err-clause-goes g c =
    let held = g.C.Channel.held c.send.new.link in
    let was = g.C.Channel.held c.take_kept-taken.new.link in
    refusal_breaks c.args.handler.now.formats.now c.args.handler.now.world.now.service (g.D.Door.returned c.args.door.now) _ _ c.args.room.now.group
    c.take_kept-taken.new.group c.in-Refused.reply (g.C.Channel.left c.send.new.link) held c.in-Refused.ensures.reads.held c.in-Err.ensures.left
    (g.J.Journal.deeds c.args.journal.now) c.in-Refused.ensures.takes c.in-Refused.ensures.others
    (subst (λ s. AppendsPart was held (bytes_by s c.in-Refused.reply)) c.in-Refused.ensures.service c.in-Err.ensures.writes.part)

pub returns-in-Err-keep_group-clause-goes : goal.returns-in-Err-keep_group-clause-goes
returns-in-Err-keep_group-clause-goes g c =
    unkept_goes c.args.handler.now.formats.now c.args.handler.now.world.now.service (g.D.Door.returned c.args.door.now) _ _ c.args.room.now.group
    c.take_kept-taken.new.group c.in-Answered.reply c.in-Answered.ensures.takes c.in-Answered.ensures.reads.held c.requires.ready.0
    (g.J.Journal.deeds c.args.journal.now) (g.J.Journal.deeds c.keep_group.new.journal) c.keep_group.new.group.sum c.in-Err-keep_group.ensures.none
    c.in-Err-keep_group.ensures.some

pub returns-in-Ok-send-clause-goes : goal.returns-in-Ok-send-clause-goes
returns-in-Ok-send-clause-goes g c =
    let held = g.C.Channel.held c.send-in-Ok-keep_group.new.link in
    let was = g.C.Channel.held c.take_kept-taken.new.link in
    let kept = c.in-Ok-keep_group.ensures in
    answer_goes c.args.handler.now.formats.now c.args.handler.now.world.now.service (g.D.Door.returned c.args.door.now) _ _ c.args.room.now.group
    c.take_kept-taken.new.group c.in-Answered.reply c.in-Answered.ensures.takes c.in-Answered.ensures.reads.held c.requires.ready.0
    (g.C.Channel.left c.send-in-Ok-keep_group.new.link) held (g.J.Journal.deeds c.args.journal.now) (g.J.Journal.deeds c.keep_group.new.journal)
    c.keep_group.new.group.sum c.in-Ok-send.ensures.left kept.sum kept.keeps c.want_of-count.result c.want_of-count.ensures.value
    (subst (λ s. Appends was held (bytes_by s c.in-Answered.reply)) c.in-Answered.ensures.service c.in-Ok-send.ensures.writes.whole)

pub returns-in-Err-send-clause-goes : goal.returns-in-Err-send-clause-goes
returns-in-Err-send-clause-goes g c =
    let held = g.C.Channel.held c.send-in-Ok-keep_group.new.link in
    let was = g.C.Channel.held c.take_kept-taken.new.link in
    let kept = c.in-Ok-keep_group.ensures in
    answer_breaks c.args.handler.now.formats.now c.args.handler.now.world.now.service (g.D.Door.returned c.args.door.now) _ _ c.args.room.now.group
    c.take_kept-taken.new.group c.in-Answered.reply c.in-Answered.ensures.takes c.in-Answered.ensures.reads.held c.requires.ready.0
    (g.C.Channel.left c.send-in-Ok-keep_group.new.link) held (g.J.Journal.deeds c.args.journal.now) (g.J.Journal.deeds c.keep_group.new.journal)
    c.keep_group.new.group.sum c.in-Err-send.ensures.left kept.sum kept.keeps
    (subst (λ s. AppendsPart was held (bytes_by s c.in-Answered.reply)) c.in-Answered.ensures.service c.in-Err-send.ensures.writes.part)

pub returns-in-End-clause-read_fault : goal.returns-in-End-clause-read_fault
returns-in-End-clause-read_fault g c = still (λ e. cc) (c.in-End.ensures.reads.cause.other (λ e. cc))

pub returns-in-End-clause-write_fault : goal.returns-in-End-clause-write_fault
returns-in-End-clause-write_fault g c = still (λ e. cc) c.in-End.ensures.reads.write_faults

pub returns-in-ReadFault-clause-read_fault : goal.returns-in-ReadFault-clause-read_fault
returns-in-ReadFault-clause-read_fault g c = rises refl refl (c.in-ReadFault.ensures.reads.cause.only refl)

pub returns-in-ReadFault-clause-write_fault : goal.returns-in-ReadFault-clause-write_fault
returns-in-ReadFault-clause-write_fault g c = still (λ e. cc) c.in-ReadFault.ensures.reads.write_faults

pub returns-in-Ok-clause-read_fault : goal.returns-in-Ok-clause-read_fault
returns-in-Ok-clause-read_fault g c = still (λ e. cc) (c.in-Ok.ensures.read_faults ∙ c.in-Refused.ensures.reads.cause.other (λ e. cc))

pub returns-in-Ok-clause-write_fault : goal.returns-in-Ok-clause-write_fault
returns-in-Ok-clause-write_fault g c = still (λ e. cc) (c.in-Ok.ensures.cause.quiet ∙ c.in-Refused.ensures.reads.write_faults)

pub returns-in-Ok-clause-same_link : goal.returns-in-Ok-clause-same_link
returns-in-Ok-clause-same_link g c = g.met.C.Source.same_trans _ _ _ c.in-Refused.ensures.reads.same c.in-Ok.ensures.same

pub returns-in-Err-clause-read_fault : goal.returns-in-Err-clause-read_fault
returns-in-Err-clause-read_fault g c = still (λ e. cc) (c.in-Err.ensures.read_faults ∙ c.in-Refused.ensures.reads.cause.other (λ e. cc))

pub returns-in-Err-clause-write_fault : goal.returns-in-Err-clause-write_fault
returns-in-Err-clause-write_fault g c = rises refl c.in-Refused.ensures.reads.write_faults c.in-Err.ensures.cause.failed

pub returns-in-Err-clause-same_link : goal.returns-in-Err-clause-same_link
returns-in-Err-clause-same_link g c = g.met.C.Source.same_trans _ _ _ c.in-Refused.ensures.reads.same c.in-Err.ensures.same

pub returns-in-Err-keep_group-clause-read_fault : goal.returns-in-Err-keep_group-clause-read_fault
returns-in-Err-keep_group-clause-read_fault g c = still (λ e. cc) (c.in-Answered.ensures.reads.cause.other (λ e. cc))

pub returns-in-Err-keep_group-clause-write_fault : goal.returns-in-Err-keep_group-clause-write_fault
returns-in-Err-keep_group-clause-write_fault g c = still (λ e. cc) c.in-Answered.ensures.reads.write_faults

pub returns-in-Err-keep_group-clause-journal_fault : goal.returns-in-Err-keep_group-clause-journal_fault
returns-in-Err-keep_group-clause-journal_fault g c = rises refl refl c.in-Err-keep_group.ensures.cause.failed

pub returns-in-Ok-send-clause-read_fault : goal.returns-in-Ok-send-clause-read_fault
returns-in-Ok-send-clause-read_fault g c = still (λ e. cc) (c.in-Ok-send.ensures.read_faults ∙ c.in-Answered.ensures.reads.cause.other (λ e. cc))

pub returns-in-Ok-send-clause-write_fault : goal.returns-in-Ok-send-clause-write_fault
returns-in-Ok-send-clause-write_fault g c = still (λ e. cc) (c.in-Ok-send.ensures.cause.quiet ∙ c.in-Answered.ensures.reads.write_faults)

pub returns-in-Ok-send-clause-same_link : goal.returns-in-Ok-send-clause-same_link
returns-in-Ok-send-clause-same_link g c = g.met.C.Source.same_trans _ _ _ c.in-Answered.ensures.reads.same c.in-Ok-send.ensures.same

pub returns-in-Ok-send-clause-journal_fault : goal.returns-in-Ok-send-clause-journal_fault
returns-in-Ok-send-clause-journal_fault g c = still (λ e. cc) c.in-Ok-keep_group.ensures.cause.quiet

pub returns-in-Err-send-clause-read_fault : goal.returns-in-Err-send-clause-read_fault
returns-in-Err-send-clause-read_fault g c = still (λ e. cc) (c.in-Err-send.ensures.read_faults ∙ c.in-Answered.ensures.reads.cause.other (λ e. cc))

pub returns-in-Err-send-clause-write_fault : goal.returns-in-Err-send-clause-write_fault
returns-in-Err-send-clause-write_fault g c = rises refl c.in-Answered.ensures.reads.write_faults c.in-Err-send.ensures.cause.failed

pub returns-in-Err-send-clause-same_link : goal.returns-in-Err-send-clause-same_link
returns-in-Err-send-clause-same_link g c = g.met.C.Source.same_trans _ _ _ c.in-Answered.ensures.reads.same c.in-Err-send.ensures.same

pub returns-in-Err-send-clause-journal_fault : goal.returns-in-Err-send-clause-journal_fault
returns-in-Err-send-clause-journal_fault g c = still (λ e. cc) c.in-Ok-keep_group.ensures.cause.quiet
