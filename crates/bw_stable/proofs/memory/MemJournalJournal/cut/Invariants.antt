use Rattle.bw_stable.specs.Deeds.{cut}
use Rattle.bw_stable.proofs.memory.MemJournalJournal.cut.Given as goal

abbrev pub ghost-and : goal.ghost-and
ghost-and a = cut a._of.now
