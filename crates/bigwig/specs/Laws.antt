-- Laws of outcomes.
use Rattle.std.specs.Prelude.{◌≡◌, ◌≢◌, ◌↔◌, ◌⊎◌, ⊤, ℕ, Bool, true, false, List, Option, None, Some}
use Rattle.bw_lang.specs.Document.Forest.{Forest}
use Rattle.bw_check.specs.Accepts.{Accepts, IsCheckFault}
use Rattle.bw_check.specs.declared.fault.CheckFault.{CheckFault}
use Rattle.bw_check.specs.declared.fault.CheckFault.TheVariants as checks
use Rattle.bw_lang.specs.Service.Reads.{Reads}
use Rattle.bw_lang.specs.declared.service.Service.{Service}
use Rattle.bw_make.specs.Made.{made}
use Rattle.bw_model.specs.Sessions.{World}
use Rattle.bw_out.specs.Told.{Disk}
use Rattle.bw_read.specs.Pages.{IsPage}
use Rattle.bw_schema.specs.BuiltIn.{built_in_root, built_in_rules}
use Rattle.bw_schema.specs.Reads.{Reads as ReadsSchema}
use Rattle.bw_schema.specs.Validity.{Valid as IsValid}
use Rattle.bw_schema.specs.declared.default_schema.TheConstants.{BUILT_IN}
use Rattle.bw_schema.specs.declared.schema.Schema.{Schema}
use Rattle.bw_types.specs.Faults.{IsWellTyped}
use Rattle.bw_questions.specs.Asked.{Ruled, Task, Work, built_in, schema, service_file, service_text}
use Rattle.bw_questions.specs.Explaining.{IsExplanation}
use Rattle.bigwig.specs.Asked.{asked}
use Rattle.bw_questions.specs.Asked.Task.{to_save, to_serve}
use Rattle.bw_questions.specs.Asked.Work.{freezes, keeps, serves, visits}
use Rattle.bw_command.specs.Commands.{command_of}
use Rattle.bigwig.specs.Outcomes.{Comes, IsDone}
use Rattle.bigwig.specs.Works.{Outside}
use Rattle.bw_questions.specs.Questions.{Said}
use Rattle.bw_questions.specs.Asked.{Script}
use Rattle.bw_command.specs.declared.command.Command.{Command}
use Rattle.bw_command.specs.declared.command.Command.TheVariants.{Check, Make, Replay, Resume, Serve, Keep, Valid, Light, Freeze, Preserve, Visit}
use Rattle.bw_command.specs.declared.command.Judging.{Judging}
use Rattle.bw_command.specs.declared.status.Status.{Status}
use Rattle.bw_command.specs.declared.status.Status.TheVariants.{Done, ReadFault, WriteFault, DoorFault, Memory, SaveRefused, JournalRefused, JournalFault, ScriptRefused}

-- the status that is due by the words and the files: that of what is said, or that of work that is done
abbrev pub Due : List (List ℕ) → Disk → Status → Type 0
Due words disk status = ((said : Said) × (asked words disk).says said × (status ≡ said.status))
    ⊎ ((work : Work) × (asked words disk).gives work × (status ≡ Done))

-- the check has a verdict on the service: it accepts it, or there is a reason why not
abbrev pub HasVerdict : Service → Schema → Type 0
HasVerdict tree by = Accepts tree by ⊎ ((fault : CheckFault) × IsCheckFault tree by fault × (fault ≢ checks.Memory))

-- the command leads to a check of this service by this schema
abbrev pub Checks : Disk → Command → Service → Schema → Type 0
Checks disk (Check service judging explain) tree by =
    (service_file None disk service).gives tree × (schema disk judging.schema).gives by
Checks disk (Replay service requests judging form load most) tree by = (service_file None disk service).gives tree × (schema disk judging.schema).gives by
Checks disk (Resume service requests judging form journal most) tree by =
    (service_file None disk service).gives tree × (schema disk judging.schema).gives by
Checks disk (Serve service judging form load port most) tree by = (service_file None disk service).gives tree × (schema disk judging.schema).gives by
Checks disk (Keep service judging form journal rotate port most) tree by = (service_file None disk service).gives tree × (schema disk judging.schema).gives by
Checks disk (Valid name named) tree by = ⊥
Checks disk (Make count workers) tree by = (service_text None (made count)).gives tree × built_in.gives by
Checks disk (Light form texts) tree by = ⊥
Checks disk (Freeze service requests judging form load most) tree by =
    (service_file None disk service).gives tree × (schema disk judging.schema).gives by
Checks disk (Preserve service judging form journal) tree by = (service_file None disk service).gives tree × (schema disk judging.schema).gives by
Checks disk (Visit service script judging form) tree by = (service_file None disk service).gives tree × (schema disk judging.schema).gives by

-- the command asks for what explains why a service isn't accepted
abbrev pub AsksWhy : Command → Type 0
AsksWhy (Check service judging true) = ⊤
AsksWhy _ = ⊥

-- each reason why the service isn't accepted has lines that explain it
abbrev pub HasExplanations : Service → Schema → Type 0
HasExplanations tree by = (fault : CheckFault) → IsCheckFault tree by fault → (fault ≢ checks.Memory) → (more : List ℕ) × IsExplanation tree by fault more

-- for all words and files some status is due, where the check has a verdict on the service that they lead to, if any, and, where
-- that is asked for, its reasons have explanations
abbrev pub SomeStatusIsDue : Type 0
SomeStatusIsDue =
    (words : List (List ℕ)) (disk : Disk)
    → ((c : Command) (tree : Service) (by : Schema) → command_of words ≡ Some c → Checks disk c tree by → HasVerdict tree by)
    → ((c : Command) (tree : Service) (by : Schema) → command_of words ≡ Some c → Checks disk c tree by → AsksWhy c → HasExplanations tree by)
    → (status : Status) × Due words disk status

-- and one only
abbrev pub OneStatusIsDue : Type 0
OneStatusIsDue = (words : List (List ℕ)) (disk : Disk) (status other : Status) → Due words disk status → Due words disk other → status ≡ other

-- the status of a fault that is counted, that of want of memory, that of a journal that is refused, or that of a world that is
-- too much to be saved
abbrev pub IsFree : Status → Type 0
IsFree status =
    (status ≡ ReadFault)
    ⊎ ((status ≡ WriteFault) ⊎ ((status ≡ DoorFault) ⊎ ((status ≡ Memory) ⊎ ((status ≡ JournalFault) ⊎ ((status ≡ JournalRefused) ⊎ (status ≡ SaveRefused))))))

-- a visit ended where an answer of its script had no control
abbrev pub IsUnanswered : List (List ℕ) → Disk → Status → Type 0
IsUnanswered words disk status = (status ≡ ScriptRefused) × (ruled : Ruled) × (script : Script) × (asked words disk).gives (visits ruled script)

-- the program comes to the status that is due, unless a count rose, there was no memory, or an answer had no control
abbrev pub ComesWhereDue : Type 0
ComesWhereDue =
    (words : List (List ℕ)) (disk : Disk) (before after : Outside) (status other : Status) → Due words disk status → Comes (asked words disk) before after other
    → (other ≡ status) ⊎ (IsFree other ⊎ IsUnanswered words disk other)

-- where every question goes well, the work is done, unless a count rose or there was no memory; or a visit ends at an answer
-- that had no control
abbrev pub DoesItsWork : Type 0
DoesItsWork =
    (words : List (List ℕ)) (disk : Disk) (work : Work) (before after : Outside) (status : Status) → (asked words disk).gives work
    → Comes (asked words disk) before after status
    → ((status ≡ Done) × IsDone work before after status) ⊎ (IsFree status ⊎ (IsUnanswered words disk status × IsDone work before after status))

-- the work serves links at a port
pub data ServesLinks : Work → Type 0 where
  alone : (ruled : Ruled) (from : World) (port most : ℕ) → ServesLinks (serves ruled from port most)
  kept : (ruled : Ruled) (text content : List ℕ) (port most : ℕ) (rotate : Option ℕ) → ServesLinks (keeps ruled text content (to_serve port most rotate))

-- the door's fault comes only where a service is served
abbrev pub DoorFaultsServe : Type 0
DoorFaultsServe =
    (words : List (List ℕ)) (disk : Disk) (before after : Outside) → Comes (asked words disk) before after DoorFault
    → (work : Work) × (asked words disk).gives work × ServesLinks work

-- a journal is refused or fails only where a service is served, or requests are answered, beside one, or what it brings about is saved
abbrev pub JournalsAreKept : Type 0
JournalsAreKept =
    (words : List (List ℕ)) (disk : Disk) (before after : Outside) (status : Status) → Comes (asked words disk) before after status
    → (status ≡ JournalRefused) ⊎ (status ≡ JournalFault)
    → (ruled : Ruled) × (text : List ℕ) × (content : List ℕ) × (task : Task) × (asked words disk).gives (keeps ruled text content task)

-- the work saves what waits: behind requests, or in the world that a journal brings about
pub data Saves : Work → Type 0 where
  requests : (ruled : Ruled) (from : World) (text stream : List ℕ) (most : ℕ) → Saves (freezes ruled from text stream most)
  journal : (ruled : Ruled) (text content : List ℕ) → Saves (keeps ruled text content to_save)

-- too much to be saved is only what is to be saved
abbrev pub SavesAreRefused : Type 0
SavesAreRefused =
    (words : List (List ℕ)) (disk : Disk) (before after : Outside) → Comes (asked words disk) before after SaveRefused
    → (work : Work) × (asked words disk).gives work × Saves work

-- a script is refused only where its file has none, or an answer in it had no control
abbrev pub ScriptsAreRefused : Type 0
ScriptsAreRefused =
    (words : List (List ℕ)) (disk : Disk) (before after : Outside) → Comes (asked words disk) before after ScriptRefused
    → ((said : Said) × (asked words disk).says said × (said.status ≡ ScriptRefused)) ⊎ IsUnanswered words disk ScriptRefused

-- the file of this name has a service that is accepted by the schema that is named
pub record IsAcceptedFile (disk : Disk) (name : List ℕ) (named : Option (List ℕ)) : Type 0 where
  pub content : List ℕ
  pub found : disk name ≡ Some content
  pub tree : Service
  pub reads : Reads content tree
  pub typed : IsWellTyped tree
  pub by : Schema
  pub is_schema : (schema disk named).gives by
  pub accepted : Accepts tree by

-- `check` is done exactly where the service and the schema read and the service is accepted
abbrev pub CheckIsDone : Type 0
CheckIsDone =
    (words : List (List ℕ)) (disk : Disk) (name : List ℕ) (judging : Judging) (explain : Bool) → command_of words ≡ Some (Check name judging explain)
    → Due words disk Done ↔ IsAcceptedFile disk name judging.schema

-- the file of this name is a page, and it is valid by the schema that is named
pub record IsValidFile (disk : Disk) (name : List ℕ) (named : Option (List ℕ)) : Type 0 where
  pub content : List ℕ
  pub found : disk name ≡ Some content
  pub tree : Forest
  pub page : IsPage content tree
  pub by : Schema
  pub is_schema : (schema disk named).gives by
  pub valid : IsValid by tree

-- `valid` is done exactly where the page and the schema read and the page is valid
abbrev pub ValidIsDone : Type 0
ValidIsDone =
    (words : List (List ℕ)) (disk : Disk) (name : List ℕ) (named : Option (List ℕ)) → command_of words ≡ Some (Valid name named) → Due words disk Done
    ↔ IsValidFile disk name named

-- the built-in text reads as the rules of the built-in schema
abbrev pub BuiltInReads : Type 0
BuiltInReads = ReadsSchema BUILT_IN.now built_in_root built_in_rules

-- where no schema is named, these rules are meant
abbrev pub BuiltInIsMeant : Type 0
BuiltInIsMeant = (disk : Disk) (s : Schema) → (schema disk None).gives s → (s.root ≡ built_in_root) × (s.elements ≡ built_in_rules)

-- and no schema is refused
abbrev pub BuiltInIsNotRefused : Type 0
BuiltInIsNotRefused = (disk : Disk) (what : Said) → (schema disk None).says what → ⊥
