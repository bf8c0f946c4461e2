use Rattle.bw_stable.specs.Deeds.{moved, wrote}
use Rattle.bw_stable.proofs.memory.MemJournalJournal.write_beside.Given as goal

abbrev pub ghost-and : goal.ghost-and
ghost-and a = moved (wrote a._of.now.items)
