use Rattle.bw_stable.specs.Deeds.{kept}
use Rattle.bw_stable.proofs.memory.MemJournalJournal.keep.Given as goal

abbrev pub ghost-and : goal.ghost-and
ghost-and g a = kept a._of.now.2.now (g.D.Door.returned a._of.now.0.now) (g.C.Channel.held a._of.now.1.now)
