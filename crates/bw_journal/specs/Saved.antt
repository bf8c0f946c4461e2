-- The saved world that a journal may begin at.
use Rattle.std.specs.Prelude.{ℕ, ◌≡◌, ◌≤◌, ◌<◌, ◌+◌, ◌⊎◌, List, ◌++◌, length, Option, None, Some}
use Rattle.std.specs.Int.{w64, from_be_bytes}
use Rattle.bw_journal.specs.Heads.{saved_front}
use Rattle.bw_journal.specs.Layout.{eight, message_bytes, sum_of}
use Rattle.bw_journal.specs.declared.limits.TheConstants.{MAX_SAVED_BYTES}
use Rattle.bw_journal.specs.declared.saving.FoundSaved.{FoundSaved}

-- the bytes of a saved world are within the limit
abbrev pub FitsSaved : List ℕ → Type 0
FitsSaved saved = length saved ≤ MAX_SAVED_BYTES

-- the check of all that stands before a saved world and of its length
abbrev pub length_sum : ℕ → List ℕ → ℕ
length_sum sum saved = sum_of sum (eight (length saved))

-- the check of all that stands before it, of its length and of its bytes
abbrev pub saved_sum : ℕ → List ℕ → ℕ
saved_sum sum saved = sum_of (length_sum sum saved) saved

-- a saved world, where this is the check of all that stands before: its length, its bytes, and the check so far
abbrev pub saved_bytes : ℕ → List ℕ → List ℕ
saved_bytes sum saved = eight (length saved) ++ message_bytes (length_sum sum saved) saved

-- the check of what stands in front of a saved world
abbrev pub front_check : List ℕ → ℕ
front_check text = sum_of 0 (saved_front text)

-- the head of a journal of the service that begins at this saved world
abbrev pub saved_head : List ℕ → List ℕ → List ℕ
saved_head text saved = saved_front text ++ saved_bytes (front_check text) saved

-- the check behind it
abbrev pub saved_start : List ℕ → List ℕ → ℕ
saved_start text saved = saved_sum (front_check text) saved

-- the bytes are this saved world, and then these
pub record BeginsSaved (sum : ℕ) (bytes saved rest : List ℕ) (after : ℕ) : Type 0 where
  pub fits : FitsSaved saved
  pub parts : bytes ≡ saved_bytes sum saved ++ rest
  pub sum_is : after ≡ saved_sum sum saved

-- the bytes begin with no saved world, whole with its check
abbrev pub HasNoSaved : ℕ → List ℕ → Type 0
HasNoSaved sum bytes = (saved rest : List ℕ) → FitsSaved saved → bytes ≡ saved_bytes sum saved ++ rest → ⊥

-- the saved world that the bytes begin with, if they do with one
abbrev pub IsSavedNext : ℕ → List ℕ → Option FoundSaved → Type 0
IsSavedNext sum bytes None = HasNoSaved sum bytes
IsSavedNext sum bytes (Some f) = BeginsSaved sum bytes f.saved.now f.rest.now f.sum

-- how many bytes a saved world has with its length and its check, by its first eight bytes: none where they are fewer, or it is too long
abbrev pub IsSavedSize : List ℕ → Option ℕ → Type 0
IsSavedSize bytes None = (length bytes < 8) ⊎ (MAX_SAVED_BYTES < from_be_bytes w64 bytes)
IsSavedSize bytes (Some n) = (8 ≤ length bytes) × (from_be_bytes w64 bytes ≤ MAX_SAVED_BYTES) × (n ≡ 16 + from_be_bytes w64 bytes)
