use Rattle.bw_stable.specs.Deeds.{moved, renamed}
use Rattle.bw_stable.proofs.memory.MemJournalJournal.take_name.Given as goal

abbrev pub ghost-and : goal.ghost-and
ghost-and a = moved renamed
