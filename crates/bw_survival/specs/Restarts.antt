-- What a crash leaves of a journal, and how its service goes on.
use Rattle.std.specs.Prelude.{◌≡◌, ◌⊎◌, ℕ, List, [], ◌∷◌, ◌++◌, length}
use Rattle.std.specs.declared.option.Option.{Option}
use Rattle.std.specs.List.{AllByRecursion}
use Rattle.bw_format.specs.declared.format.Format.{Format}
use Rattle.bw_journal.specs.Heads.{head_of}
use Rattle.bw_journal.specs.Journals.{IsJournal}
use Rattle.bw_journal.specs.Layout.{Entry, Fits, entries_bytes, last_sum}
use Rattle.bw_journal.specs.Reading.{IsCut, IsShort}
use Rattle.bw_journal.specs.Starts.{Start, head_at, nothing, sum_at}
use Rattle.bw_lang.specs.declared.service.Service.{Service}
use Rattle.bw_model.specs.Sessions.{World}
use Rattle.bw_out.specs.Doors.{Returned}
use Rattle.bw_stable.specs.Deeds.{Deed, cut, kept, moved, MayLeave}
use Rattle.bw_bringing.specs.Bringing.{Brings}

-- the entries of groups, one after another
abbrev pub joined : List (List Entry) → List Entry
joined [] = []
joined (group ∷ groups) = group ++ joined groups

-- the deeds keep these groups, one after another, behind entries with this check
abbrev pub Keeps : ℕ → List Deed → List (List Entry) → Type 0
Keeps sum [] groups = groups ≡ []
Keeps sum (kept bytes returned held ∷ deeds) [] = ⊥
Keeps sum (kept bytes returned held ∷ deeds) (group ∷ groups) = (bytes ≡ entries_bytes sum group) × Keeps (last_sum sum group) deeds groups
Keeps sum (cut len ∷ deeds) groups = ⊥
Keeps sum (moved move ∷ deeds) groups = ⊥

-- the start of a journal of the service that begins at the world in which nothing was requested yet
abbrev pub empty_start : List ℕ → Start
empty_start text = record { text = text; origin = nothing }

-- a journal's bytes: its head, and entries
abbrev pub file_of : Start → List Entry → List ℕ
file_of start entries = head_at start ++ entries_bytes (sum_at start) entries

-- these are the first entries of the next group, or none
abbrev pub IsInFlight : List Entry → List (List Entry) → Type 0
IsInFlight first [] = first ≡ []
IsInFlight first (next ∷ later) = (lost : List Entry) × (next ≡ first ++ lost)

-- Behind its head a file is a journal: of the entries before, of the groups that were kept whole, which are at least those
-- that these deeds kept, and of the first entries of at most one group more. The others are lost.
pub record HasKept (start : Start) (before : List Entry) (groups : List (List Entry)) (done : List Deed) (file : List ℕ) : Type 0 where
  pub whole : List (List Entry)
  pub rest : List (List Entry)
  pub first : List Entry
  pub others : List Entry
  pub groups_are : groups ≡ whole ++ rest
  pub done_is : Keeps (last_sum (sum_at start) before) done whole
  pub in_flight : IsInFlight first rest
  pub all : joined groups ≡ (joined whole ++ first) ++ others
  pub behind : List ℕ
  pub parts : file ≡ head_at start ++ behind
  pub tail : List ℕ
  pub journal : IsJournal (sum_at start) behind (before ++ (joined whole ++ first)) tail

-- and from the world that these bring about, the others bring about the world that all together did
pub record GoesOn (formats : List Format) (service : Service) (origin to : World) (start : Start) (before : List Entry)
    (groups : List (List Entry)) (done : List Deed) (file : List ℕ) : Type 0 where
  pub kept : HasKept start before groups done file
  pub world : World
  pub brings : Brings formats service origin (before ++ (joined kept.whole ++ kept.first)) world
  pub goes_on : Brings formats service world kept.others to

-- So it is whenever a crash comes and whatever it leaves, where the deeds kept groups behind a journal.
abbrev pub RestartsGoOn : Type 0
RestartsGoOn =
    (formats : List Format) (service : Service) (origin to : World) (start : Start) (before : List Entry) (groups : List (List Entry)) (deeds : List Deed)
    (left : List ℕ) → AllByRecursion Fits (before ++ joined groups) → Brings formats service origin (before ++ joined groups) to
    → Keeps (last_sum (sum_at start) before) deeds groups → (may : MayLeave deeds (file_of start before) left)
    → GoesOn formats service origin to start before groups may.done left

-- ---- before groups are kept

-- behind its head the file is a journal of these entries
pub record IsFileOf (start : Start) (entries : List Entry) (file : List ℕ) : Type 0 where
  pub behind : List ℕ
  pub parts : file ≡ head_at start ++ behind
  pub tail : List ℕ
  pub journal : IsJournal (sum_at start) behind entries tail

-- Where less than an entry stands behind a journal and the file is cut there first, a crash leaves a journal of the same
-- entries, or what it may leave of the file as it was cut.
abbrev pub CutsLeaveEntries : Type 0
CutsLeaveEntries =
    (start : Start) (entries : List Entry) (tail : List ℕ) (deeds : List Deed) (left : List ℕ) → AllByRecursion Fits entries
    → IsShort (last_sum (sum_at start) entries) tail → MayLeave (cut (length (file_of start entries)) ∷ deeds) (file_of start entries ++ tail) left
    → IsFileOf start entries left ⊎ MayLeave deeds (file_of start entries) left

-- Where a head is begun and the file is cut to nothing and the head kept, a crash leaves a head that is begun, or what it may
-- leave of a journal without entries.
abbrev pub HeadsAreBegun : Type 0
HeadsAreBegun =
    (text file : List ℕ) (returned : Option (List Returned)) (held : Option (List ℕ)) (deeds : List Deed) (left : List ℕ) → IsCut (head_of text) file
    → MayLeave (cut 0 ∷ (kept (head_of text) returned held ∷ deeds)) file left → IsCut (head_of text) left ⊎ MayLeave deeds (file_of (empty_start text) []) left
