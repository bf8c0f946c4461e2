-- The exit codes.
use Rattle.std.specs.Prelude.{ℕ}
use Rattle.bw_command.specs.declared.status.Refusal.{Refusal}
use Rattle.bw_command.specs.declared.status.Refusal.TheVariants as refusals
use Rattle.bw_command.specs.declared.status.Status.{Status}
use Rattle.bw_command.specs.declared.status.Status.TheVariants.{
  Done,
  Usage,
  ServiceRefused,
  SchemaRefused,
  ReadFault,
  WriteFault,
  DoorFault,
  Memory,
  PageRefused,
  FormatsRefused,
  LoadRefused,
  SaveRefused,
  ScriptRefused,
  NoFile,
  JournalRefused,
  JournalFault,
}

-- the code that the program ends with for a status
abbrev pub code_of : Status → ℕ
code_of Done = 0
code_of Usage = 2
code_of ServiceRefused = 3
code_of SchemaRefused = 4
code_of ReadFault = 5
code_of WriteFault = 6
code_of DoorFault = 7
code_of Memory = 8
code_of PageRefused = 9
code_of FormatsRefused = 10
code_of LoadRefused = 11
code_of SaveRefused = 12
code_of ScriptRefused = 13
code_of NoFile = 15
code_of JournalRefused = 16
code_of JournalFault = 17

-- the status that the program ends with where this is refused
abbrev pub status_for : Refusal → Status
status_for refusals.File = NoFile
status_for refusals.Service = ServiceRefused
status_for refusals.Schema = SchemaRefused
status_for refusals.Page = PageRefused
status_for refusals.Formats = FormatsRefused
status_for refusals.Load = LoadRefused
status_for refusals.Save = SaveRefused
status_for refusals.Script = ScriptRefused
status_for refusals.Journal = JournalRefused
