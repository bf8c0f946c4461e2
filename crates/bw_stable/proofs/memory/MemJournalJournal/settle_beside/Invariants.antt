use Rattle.bw_stable.specs.Deeds.{moved, settled}
use Rattle.bw_stable.proofs.memory.MemJournalJournal.settle_beside.Given as goal

abbrev pub ghost-and : goal.ghost-and
ghost-and a = moved settled
