use Rattle.std.proofs.Common.{None, Some, Err, length, refl, ap, subst}
use Rattle.bw_journal.specs.Heads.{saved_front}
use Rattle.bw_recall.specs.Starting.{IsMarked}
use Rattle.bw_recall.specs.declared.recalling.Recalled.TheVariants as recalled
use Rattle.bigwig.proofs.Opened.{begins_empty, begins_new, damaged_stops, empty_reads, empty_stops, fit_begun, free_stops, near_begun, other_stops}
use Rattle.bigwig.proofs.Opened.{saved_begun, saved_stops, told_reads, version_stops}
use Rattle.bigwig.proofs.origins.begin_at.Goals as goal

pub returns-in-New-clause-begun : goal.returns-in-New-clause-begun
returns-in-New-clause-begun c =
    begins_new c.args.served.checked.typed.service c.args.served.formats c.args.text.now c.args.started c.begin_empty.result c.in-New.is
    c.begin_empty.ensures.service c.begin_empty.ensures.stands c.begin_empty.ensures.mark

pub returns-in-New-clause-stops : goal.returns-in-New-clause-stops
returns-in-New-clause-stops c =
    empty_stops c.args.served.checked.typed.service c.args.served.formats c.args.text.now c.args.started c.begin_empty.result
    c.begin_empty.ensures.memory

pub returns-in-New-clause-fit : goal.returns-in-New-clause-fit
returns-in-New-clause-fit c = fit_begun c.begin_empty.result c.begin_empty.ensures.stands c.begin_empty.ensures.sound

pub returns-in-New-clause-near : goal.returns-in-New-clause-near
returns-in-New-clause-near c = near_begun None c.begin_empty.result tt c.begin_empty.ensures.mark

pub returns-in-New-clause-reads : goal.returns-in-New-clause-reads
returns-in-New-clause-reads c = empty_reads c.begin_empty.result c.begin_empty.ensures.memory

pub returns-in-Empty-clause-begun : goal.returns-in-Empty-clause-begun
returns-in-Empty-clause-begun c =
    begins_empty c.args.served.checked.typed.service c.args.served.formats c.args.text.now c.args.started c.in-Empty.mark
    c.begin_empty-in-Empty.result c.in-Empty.is c.begin_empty-in-Empty.ensures.service c.begin_empty-in-Empty.ensures.stands
    c.begin_empty-in-Empty.ensures.mark

pub returns-in-Empty-clause-stops : goal.returns-in-Empty-clause-stops
returns-in-Empty-clause-stops c =
    empty_stops c.args.served.checked.typed.service c.args.served.formats c.args.text.now c.args.started c.begin_empty-in-Empty.result
    c.begin_empty-in-Empty.ensures.memory

pub returns-in-Empty-clause-fit : goal.returns-in-Empty-clause-fit
returns-in-Empty-clause-fit c =
    fit_begun c.begin_empty-in-Empty.result c.begin_empty-in-Empty.ensures.stands c.begin_empty-in-Empty.ensures.sound

pub returns-in-Empty-clause-near : goal.returns-in-Empty-clause-near
returns-in-Empty-clause-near c =
    near_begun (Some c.in-Empty.mark) c.begin_empty-in-Empty.result (subst IsMarked c.in-Empty.is c.requires.marked) c.begin_empty-in-Empty.ensures.mark

pub returns-in-Empty-clause-reads : goal.returns-in-Empty-clause-reads
returns-in-Empty-clause-reads c = empty_reads c.begin_empty-in-Empty.result c.begin_empty-in-Empty.ensures.memory

pub returns-in-Ok-clause-begun : goal.returns-in-Ok-clause-begun
returns-in-Ok-clause-begun c =
    saved_begun c.args.served.checked.typed.service c.args.served.formats c.args.text.now c.args.started c.in-Saved.saved c.deref.result.now
    c.in-Saved.mark c.in-Ok.server.world c.in-Saved.is c.deref.ensures.value c.in-Ok.ensures.answers

pub returns-in-Ok-clause-near : goal.returns-in-Ok-clause-near
returns-in-Ok-clause-near c = subst IsMarked c.in-Saved.is c.requires.marked

pub returns-in-Saved-clause-stops : goal.returns-in-Saved-clause-stops
returns-in-Saved-clause-stops c =
    saved_stops c.args.served.checked.typed.service c.args.served.formats c.args.text.now c.args.started c.in-Saved.saved c.deref.result.now
    c.in-Saved.mark c.in-Err.stop c.unloaded.result c.in-Saved.is c.deref.ensures.value c.in-Err.ensures.answers
    (λ e. c.in-Err.ensures.no_read (ap Err e)) c.unloaded.ensures.memory c.unloaded.ensures.told

pub returns-in-Damaged-clause-stops : goal.returns-in-Damaged-clause-stops
returns-in-Damaged-clause-stops c =
    damaged_stops c.args.served.checked.typed.service c.args.served.formats c.args.text.now c.args.started c.stopped.result c.in-Damaged.at c.in-Damaged.is
    c.stopped.ensures.told

pub returns-in-Version-clause-stops : goal.returns-in-Version-clause-stops
returns-in-Version-clause-stops c =
    version_stops c.args.served.checked.typed.service c.args.served.formats c.args.text.now c.args.started c.stopped-in-Version.result c.in-Version.version c.in-Version.is
    c.stopped-in-Version.ensures.told

pub returns-in-Other-clause-stops : goal.returns-in-Other-clause-stops
returns-in-Other-clause-stops c =
    other_stops c.args.served.checked.typed.service c.args.served.formats c.args.text.now c.args.started c.stopped-in-Other.result c.in-Other.is
    c.stopped-in-Other.ensures.told

pub returns-in-ReadFault-clause-stops : goal.returns-in-ReadFault-clause-stops
returns-in-ReadFault-clause-stops c =
    free_stops c.args.served.checked.typed.service c.args.served.formats c.args.text.now c.args.started c.stopped-in-ReadFault.result recalled.ReadFault (λ e. e)
    c.stopped-in-ReadFault.ensures.told

pub returns-in-Damaged-clause-reads : goal.returns-in-Damaged-clause-reads
returns-in-Damaged-clause-reads c = told_reads (Err c.stopped.result) (recalled.Damaged c.in-Damaged.at) c.stopped.result refl c.stopped.ensures.told (λ e. absurd cc)

pub returns-in-Version-clause-reads : goal.returns-in-Version-clause-reads
returns-in-Version-clause-reads c = told_reads (Err c.stopped-in-Version.result) (recalled.Version c.in-Version.version) c.stopped-in-Version.result refl c.stopped-in-Version.ensures.told (λ e. absurd cc)

pub returns-in-Other-clause-reads : goal.returns-in-Other-clause-reads
returns-in-Other-clause-reads c = told_reads (Err c.stopped-in-Other.result) recalled.Other c.stopped-in-Other.result refl c.stopped-in-Other.ensures.told (λ e. absurd cc)
