-- What contracts see of journals in memory.
use Rattle.std.specs.Prelude.{ℕ, List, ◌++◌, ◌∷◌, [], None, Some, take}
use Rattle.std.specs.declared.option.Option.{Option}
use Rattle.bw_out.specs.Causes.{raised}
use Rattle.bw_stable.specs.Deeds.{Deed, cut, kept, moved, wrote, settled, renamed, named}

-- a journal: what was done to it since it was opened, the bytes of its file and of the one beside it, the numbers of the calls
-- that fail, the calls and the failures so far
pub record JournalValue : Type 0 where
  pub deeds : List Deed
  pub file : List ℕ
  pub beside : Option (List ℕ)
  pub failing : List ℕ
  pub calls : ℕ
  pub faults : ℕ

-- a call of it was begun, and isn't to fail
abbrev pub begun : JournalValue → JournalValue
begun journal = record journal { calls = raised journal.calls }

-- a call of it has failed
abbrev pub failed : JournalValue → JournalValue
failed journal = record journal { calls = raised journal.calls; faults = raised journal.faults }

-- the file beside it has its name, if there is one
abbrev pub with_name_taken : Option (List ℕ) → JournalValue → JournalValue
with_name_taken None journal = journal
with_name_taken (Some bytes) journal = record journal { file = bytes; beside = None }

-- what a deed makes of its files
abbrev pub with_files : Deed → JournalValue → JournalValue
with_files (cut len) journal = record journal { file = take len journal.file }
with_files (kept bytes returned held) journal = record journal { file = journal.file ++ bytes }
with_files (moved (wrote bytes)) journal = record journal { beside = Some bytes }
with_files (moved settled) journal = journal
with_files (moved renamed) journal = with_name_taken journal.beside journal
with_files (moved named) journal = journal

-- a call of it has done this
abbrev pub with_deed : Deed → JournalValue → JournalValue
with_deed deed journal = with_files deed (record journal { deeds = journal.deeds ++ deed ∷ []; calls = raised journal.calls })
