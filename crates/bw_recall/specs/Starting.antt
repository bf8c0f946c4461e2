-- What reading where a journal begins does.
use Rattle.std.specs.Prelude.{◌≡◌, ◌⊎◌, ◌≤◌, ◌<◌, ◌+◌, ◌^◌, ℕ, true, List, [], ◌++◌, length, Option, Some, ⊤}
use Rattle.bw_format.specs.declared.format.Format.{Format}
use Rattle.bw_journal.specs.Heads.{BeginsHead, HasOther, HasVersion, head_of, saved_front}
use Rattle.bw_journal.specs.Reading.{IsCut}
use Rattle.bw_journal.specs.Saved.{BeginsSaved, HasNoSaved, front_check, saved_bytes}
use Rattle.bw_journal.specs.Starts.{FitsStart, Start, head_at, nothing, saved, sum_at}
use Rattle.bw_world.specs.Seen.{Seen}
use Rattle.bw_recall.specs.Recalling.{IsRecalledBehind, Recalls}
use Rattle.bw_recall.specs.Windows.{Hand}
use Rattle.bw_recall.specs.declared.recalling.Recalled.{Recalled}
use Rattle.bw_recall.specs.declared.starting.Mark.{Mark}
use Rattle.bw_recall.specs.declared.starting.Started.{Started}
use Rattle.bw_recall.specs.declared.starting.Started.TheVariants as started
use Rattle.bw_recall.specs.declared.window.TheConstants.{MAX_TEXT_BYTES}

-- a mark is no further behind than a head may be
abbrev pub IsMarked : Started → Type 0
IsMarked (started.Empty mark) = mark.len < 2 ^ 33
IsMarked (started.Saved bytes mark) = mark.len < 2 ^ 34
IsMarked result = ⊤

-- ---- a saved world

-- what came of the saved world that the bytes at hand are to begin with, behind the mark: these are left
abbrev pub IsSavedIn : Mark → List ℕ → List ℕ → Started → Type 0
IsSavedIn start bytes rest (started.Saved world mark) =
    BeginsSaved start.sum bytes world.items rest mark.sum × (mark.len ≡ start.len + length (saved_bytes start.sum world.items))
IsSavedIn start bytes rest (started.Damaged n) = (n ≡ start.len) × HasNoSaved start.sum bytes
IsSavedIn start bytes rest started.Memory = ⊤
IsSavedIn start bytes rest result = ⊥

-- the bytes are this saved world, and then those at hand and those that the source has left
pub record SavedThere (start : Mark) (bytes : List ℕ) (hand : Hand) (later : Option (List ℕ)) (world : List ℕ) (mark : Mark) : Type 0 where
  pub rest : List ℕ
  pub left : later ≡ Some rest
  pub ended : hand.ended ≡ true → rest ≡ []
  pub begins : BeginsSaved start.sum bytes world (hand.bytes ++ rest) mark.sum
  pub len_is : mark.len ≡ start.len + length (saved_bytes start.sum world)

-- the same of all bytes
abbrev pub IsSavedFrom : Mark → List ℕ → Hand → Option (List ℕ) → Started → Type 0
IsSavedFrom start bytes hand later (started.Saved world mark) = SavedThere start bytes hand later world.items mark
IsSavedFrom start bytes hand later started.ReadFault = ⊤
IsSavedFrom start bytes hand later result = IsSavedIn start bytes [] result

-- the same of the bytes at hand and those that the source had left, where these were all told
abbrev pub StartsSaved : Mark → Hand → Hand → Option (List ℕ) → Option (List ℕ) → Started → Type 0
StartsSaved start old new left later result =
    (unread : List ℕ) → left ≡ Some unread → (old.ended ≡ true → unread ≡ []) → IsSavedFrom start (old.bytes ++ unread) new later result

-- ---- a journal

-- The bytes are the head of this start, and then those at hand and those that the source has left. The mark is behind the head.
pub record IsBehind (start : Start) (bytes : List ℕ) (hand : Hand) (later : Option (List ℕ)) (mark : Mark) : Type 0 where
  pub fits : FitsStart start
  pub rest : List ℕ
  pub left : later ≡ Some rest
  pub ended : hand.ended ≡ true → rest ≡ []
  pub parts : bytes ≡ head_at start ++ (hand.bytes ++ rest)
  pub len_is : mark.len ≡ length (head_at start)
  pub sum_is : mark.sum ≡ sum_at start

-- the bytes begin with the head of no service whose file is within the limit, and are no first part of the head of one in which nothing
-- was requested yet
pub record HasNoStart (text bytes : List ℕ) : Type 0 where
  pub none : (head : BeginsHead bytes) → length head.text ≤ MAX_TEXT_BYTES → ⊥
  pub not_cut : IsCut (head_of text) bytes → ⊥

-- the bytes begin with what stands in front of a saved world, so many bytes, and no saved world follows, whole with its check
pub record HasNoWorld (text bytes : List ℕ) (len : ℕ) : Type 0 where
  pub behind : List ℕ
  pub parts : bytes ≡ saved_front text ++ behind
  pub len_is : len ≡ length (saved_front text)
  pub none : HasNoSaved (front_check text) behind

-- what a journal of these bytes begins with, where the service's file is this text
abbrev pub IsStarted : List ℕ → List ℕ → Hand → Option (List ℕ) → Started → Type 0
IsStarted text bytes hand later started.New = IsCut (head_of text) bytes
IsStarted text bytes hand later (started.Empty mark) = IsBehind (record { text = text; origin = nothing }) bytes hand later mark
IsStarted text bytes hand later (started.Saved world mark) = IsBehind (record { text = text; origin = saved world.items }) bytes hand later mark
IsStarted text bytes hand later (started.Damaged n) = ((n ≡ 0) × HasNoStart text bytes) ⊎ HasNoWorld text bytes n
IsStarted text bytes hand later (started.Version version) = HasVersion bytes version
IsStarted text bytes hand later started.Other = HasOther text bytes
IsStarted text bytes hand later started.ReadFault = ⊤
IsStarted text bytes hand later started.Memory = ⊤

-- the bytes are the head of this start, and behind it that came of the entries, from the world that the journal begins at
pub record IsRecalledFrom (formats : List Format) (before now : Seen) (start : Start) (bytes : List ℕ) (result : Recalled) : Type 0 where
  pub behind : List ℕ
  pub head : bytes ≡ head_at start ++ behind
  pub recalled : IsRecalledBehind formats before now (length (head_at start)) (sum_at start) behind result

-- so it is where the entries were recalled behind the mark
abbrev pub RecalledFrom : Type 0
RecalledFrom =
    (formats : List Format) (before now : Seen) (start : Start) (bytes : List ℕ) (hand : Hand) (later : Option (List ℕ)) (mark : Mark) (result : Recalled)
    → IsBehind start bytes hand later mark → Recalls formats before now mark.len mark.sum hand later result
    → IsRecalledFrom formats before now start bytes result
