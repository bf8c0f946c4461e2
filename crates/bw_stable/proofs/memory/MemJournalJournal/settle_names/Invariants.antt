use Rattle.bw_stable.specs.Deeds.{moved, named}
use Rattle.bw_stable.proofs.memory.MemJournalJournal.settle_names.Given as goal

abbrev pub ghost-and : goal.ghost-and
ghost-and a = moved named
