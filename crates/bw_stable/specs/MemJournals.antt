-- What contracts see of a journal in memory.
use Rattle.std.specs.Prelude.{ℕ, List}
use Rattle.std.specs.Option.{option_map}
use Rattle.std.specs.declared.option.Option.{Option}
use Rattle.bw_stable.specs.declared.memory.MemJournals.{MemJournals}

-- the count of openings that failed and of journals that had a fault as they were closed
abbrev pub mem_faults_of : MemJournals → ℕ
mem_faults_of journals = journals.faults

-- what the journal's file holds, unless it is open
abbrev pub file_of : MemJournals → Option (List ℕ)
file_of journals = option_map (λ file. file.items) journals.file
