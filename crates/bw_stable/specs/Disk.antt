-- What contracts see of journals of the system.
use Rattle.std.specs.Prelude.{ℕ, List, string_bytes}
use Rattle.std.specs.declared.option.Option.{Option}
use Rattle.std.specs.declared.io.ErrorKind.{ErrorKind}
use Rattle.bw_stable.specs.declared.disk.DiskJournal.{DiskJournal}
use Rattle.bw_stable.specs.declared.disk.DiskJournals.{DiskJournals}

-- the count of a journal's calls that failed
abbrev pub faults_of : {R : Type 0} → DiskJournal R → ℕ
faults_of journal = journal.faults

-- why its last call that failed did, where one did
abbrev pub trouble_of : {R : Type 0} → DiskJournal R → Option ErrorKind
trouble_of journal = journal.trouble

-- the count of openings that failed and of journals that had a fault as they were closed
abbrev pub journal_faults_of : {R : Type 0} → DiskJournals R → ℕ
journal_faults_of journals = journals.faults

-- why the last opening failed, or the journal that was closed since had a fault
abbrev pub journal_trouble_of : {R : Type 0} → DiskJournals R → Option ErrorKind
journal_trouble_of journals = journals.trouble

-- the name of the journal that was last asked for
abbrev pub journal_name_of : {R : Type 0} → DiskJournals R → List ℕ
journal_name_of journals = string_bytes journals.name
