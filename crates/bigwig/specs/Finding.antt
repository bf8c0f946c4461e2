-- What the code finds in a journal and does with it, on the way.
use Rattle.std.specs.Prelude.{◌≡◌, ℕ, List, [], ◌∷◌, Option, None, Some, ⊤}
use Rattle.bw_journal.specs.Heads.{head_of, start_sum}
use Rattle.bw_journal.specs.Reading.{IsCut}
use Rattle.bw_journal.specs.Saved.{saved_head, saved_start}
use Rattle.bw_journal.specs.Starts.{FitsOrigin, Origin}
use Rattle.bw_recall.specs.Starting.{IsBehind}
use Rattle.bw_recall.specs.Windows.{Hand}
use Rattle.bw_recall.specs.declared.starting.Mark.{Mark}
use Rattle.bw_model.specs.Sessions.{World, empty}
use Rattle.bw_out.specs.Doors.{Returned}
use Rattle.bw_recall.specs.declared.recalling.Recalled.{Recalled}
use Rattle.bw_recall.specs.declared.recalling.Recalled.TheVariants as recalled
use Rattle.bw_save.specs.Frozen.{loaded_of, saved_of}
use Rattle.bw_save.specs.Onward.{IsFileAgain}
use Rattle.bw_stable.specs.Deeds.{Deed, cut, kept}
use Rattle.bw_stable.specs.Replacing.{replacing}
use Rattle.bw_world.specs.Seen.{Seen}
use Rattle.bw_world.specs.Stands.{StandsFor}
use Rattle.bw_questions.specs.Asked.{Ruled, Task}
use Rattle.bw_questions.specs.Asked.Task.{to_answer, to_serve}
use Rattle.bigwig.specs.Fits.{IsFitWorld}
use Rattle.bigwig.specs.Freezing.{file_of}
use Rattle.bigwig.specs.Keeping.{BeginsAt, Holds, IsLonger, Refuses, Stays}
use Rattle.bigwig.specs.JournalLines.{journal_line}
use Rattle.bw_questions.specs.Reports.{SaysLine}
use Rattle.bigwig.specs.declared.bringing.Found.{Found}
use Rattle.bigwig.specs.declared.bringing.Found.TheVariants.{Nothing, Entries}
use Rattle.bigwig.specs.declared.readying.Opening.{Opening}
use Rattle.bigwig.specs.declared.readying.Opening.TheVariants.{Head, Cut, Anew}
use Rattle.bigwig.specs.declared.keeping.Task.{Task as CodeTask}
use Rattle.bigwig.specs.declared.keeping.Task.TheVariants.{Links, Stream}
use Rattle.bw_command.specs.declared.status.Refusal.TheVariants as refusals
use Rattle.bw_questions.specs.declared.stop.Stop.{Stop}
use Rattle.bw_questions.specs.declared.stop.Stop.TheVariants.{Says, ReadFault, Memory}

-- how the reading of a journal ended in which this is found
abbrev pub recalled_of : Found → Recalled
recalled_of Nothing = recalled.New
recalled_of (Entries len sum) = recalled.Done len sum

-- this was found, and the world of the code stands for the one that the journal brings about
abbrev pub IsFoundIn : Ruled → List ℕ → List ℕ → Seen → Found → Type 0
IsFoundIn ruled text content seen found =
    (world : World) × Holds ruled text content (recalled_of found) world × StandsFor seen world × IsFitWorld ruled world

-- Where the journal begins was read: nothing was kept yet, and no whole head either; or it begins at the world in which what waits in this one
-- of the code was loaded, and its entries behind the mark.
abbrev pub IsBegunIn : Ruled → (text content : List ℕ) → Seen → Option Mark → Hand → Option (List ℕ) → Type 0
IsBegunIn ruled text content seen None hand later = IsCut (head_of text) content × (loaded_of seen ≡ empty ruled.service)
IsBegunIn ruled text content seen (Some mark) hand later =
    (origin : Origin) × FitsOrigin origin × BeginsAt ruled text origin (loaded_of seen)
    × IsBehind (record { text = text; origin = origin }) content hand later mark

-- why the program stops at a journal; a read fault and want of memory are free here, and have their causes elsewhere
abbrev pub IsRefusedBy : Ruled → List ℕ → List ℕ → Stop → Type 0
IsRefusedBy ruled text content (Says refusal said) =
    (why : Recalled) × Refuses ruled text content why × SaysLine refusals.Journal (journal_line why) (Says refusal said)
IsRefusedBy ruled text content ReadFault = ⊤
IsRefusedBy ruled text content Memory = ⊤

-- the reading ended with a refusal
abbrev pub IsRefusal : Recalled → Type 0
IsRefusal (recalled.Damaged at) = ⊤
IsRefusal (recalled.Version version) = ⊤
IsRefusal recalled.Other = ⊤
IsRefusal _ = ⊥

-- the program stops since the reading of a journal ended so
abbrev pub IsToldBy : Recalled → Stop → Type 0
IsToldBy why (Says refusal said) = IsRefusal why × SaysLine refusals.Journal (journal_line why) (Says refusal said)
IsToldBy why ReadFault = why ≡ recalled.ReadFault
IsToldBy why Memory = ⊤

-- what is done to a journal before any link or request
abbrev pub begun_by : Opening → Option (List Returned) → Option (List ℕ) → List Deed
begun_by (Head head sum) given printed = cut 0 ∷ (kept head.items given printed ∷ [])
begun_by (Cut len sum) given printed = cut len ∷ []
begun_by (Anew head sum) given printed = replacing head.items

-- the check behind what it then holds
abbrev pub sum_of : Opening → ℕ
sum_of (Head head sum) = sum
sum_of (Cut len sum) = sum
sum_of (Anew head sum) = sum

-- ---- the task

-- the task of the code is this one, where its file tells what it has to read
abbrev pub IsTask : {S : Type 0} → (S → Option (List ℕ)) → CodeTask S → Task → Type 0
IsTask left (Links place) task = task ≡ to_serve place.port place.most place.rotate
IsTask left (Stream requests) task = (stream : List ℕ) × (left requests.file ≡ Some stream) × (task ≡ to_answer stream requests.most)

-- from how many bytes on a journal is begun anew for it, if it ever is
abbrev pub rotate_in : {S : Type 0} → CodeTask S → Option ℕ
rotate_in (Links place) = place.rotate
rotate_in (Stream requests) = None

-- no read of its file has failed
abbrev pub IsFresh : {S : Type 0} → (S → ℕ) → CodeTask S → Type 0
IsFresh faults (Links place) = ⊤
IsFresh faults (Stream requests) = faults requests.file ≡ 0

-- ---- what is to be done to it

-- the journal was read, and a head is to be put there, since there is none
pub record IsHeadless (ruled : Ruled) (text content : List ℕ) (seen : Seen) (start : List ℕ) (sum : ℕ) : Type 0 where
  pub is_found : IsFoundIn ruled text content seen Nothing
  pub start_is : start ≡ head_of text
  pub sum_is : sum ≡ start_sum text

-- it was read, and it stays, but for less than an entry at its end
pub record IsStaying (ruled : Ruled) (text content : List ℕ) (rotate : Option ℕ) (seen : Seen) (len sum : ℕ) : Type 0 where
  pub is_found : IsFoundIn ruled text content seen (Entries len sum)
  pub stays : (world : World) → StandsFor seen world → Stays ruled text rotate (recalled.Done len sum) world

-- it was read, and is to be begun anew
pub record IsRenewing (ruled : Ruled) (text content : List ℕ) (rotate : Option ℕ) (seen : Seen) (start : List ℕ) (sum : ℕ) : Type 0 where
  pub len : ℕ
  pub before : ℕ
  pub is_found : IsFoundIn ruled text content seen (Entries len before)
  pub longer : IsLonger rotate len
  pub file : IsFileAgain ruled.service text (saved_of seen) (file_of text seen)
  pub service : seen.service ≡ ruled.service
  pub start_is : start ≡ saved_head text (file_of text seen)
  pub sum_is : sum ≡ saved_start text (file_of text seen)

-- the journal was read, and this is to be done to it
abbrev pub IsRead : Ruled → (text content : List ℕ) → Option ℕ → Seen → Opening → Type 0
IsRead ruled text content rotate seen (Head head sum) = IsHeadless ruled text content seen head.items sum
IsRead ruled text content rotate seen (Cut len sum) = IsStaying ruled text content rotate seen len sum
IsRead ruled text content rotate seen (Anew head sum) = IsRenewing ruled text content rotate seen head.items sum
