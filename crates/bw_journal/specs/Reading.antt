-- What bytes begin with.
use Rattle.std.specs.Prelude.{ℕ, ◌≡◌, ◌<◌, ◌^◌, List, ◌++◌, length}
use Rattle.bw_journal.specs.Layout.{Entry, Fits, front_bytes, entry_bytes, sum_after, message_bytes, sum_of}
use Rattle.bw_journal.specs.declared.passing.Passed.{Passed}
use Rattle.bw_journal.specs.declared.passing.Passed.TheVariants.{Differs, Cut, Behind}
use Rattle.bw_journal.specs.declared.fronts.Front.{Front}
use Rattle.bw_journal.specs.declared.entries.Next.{Next}
use Rattle.bw_journal.specs.declared.entries.Next.TheVariants.{Short, Unsound, Whole}

-- the entry of a key and a message
abbrev pub entry : ℕ → List ℕ → Entry
entry key message = record { key = key; message = message }

-- these bytes are a first part of those that are to come, and less than all of them
pub record IsCut (want bytes : List ℕ) : Type 0 where
  pub more : List ℕ
  pub some : 0 < length more
  pub whole : bytes ++ more ≡ want

-- however they go on, these bytes don't begin as those that are to come
abbrev pub NeverBegins : List ℕ → List ℕ → Type 0
NeverBegins want bytes = (x y : List ℕ) → bytes ++ x ≡ want ++ y → ⊥

-- what comes of bytes that are to begin so
abbrev pub IsPassed : List ℕ → List ℕ → Passed → Type 0
IsPassed want bytes Differs = NeverBegins want bytes
IsPassed want bytes Cut = IsCut want bytes
IsPassed want bytes (Behind rest) = bytes ≡ want ++ rest.now

-- bytes of which this came, where some are to come first, come to that where these are to come next
abbrev pub PassesNext : List ℕ → Passed → Passed → Type 0
PassesNext want passed next = (front bytes : List ℕ) → IsPassed front bytes passed → IsPassed (front ++ want) bytes next

-- the front of an entry, and what follows it
pub record IsFront (front : Front) (bytes : List ℕ) : Type 0 where
  pub front_is : front.bytes.now ≡ front_bytes front.len front.key
  pub parts : bytes ≡ front.bytes.now ++ front.rest.now
  pub len : front.len < 2 ^ 32
  pub key : front.key < 2 ^ 64

-- a first part of an entry, and less than all of it
pub record IsShort (sum : ℕ) (bytes : List ℕ) : Type 0 where
  pub whole : Entry
  pub fits : Fits whole
  pub cut : IsCut (entry_bytes sum whole) bytes

-- no entry begins so
abbrev pub IsUnsound : ℕ → List ℕ → Type 0
IsUnsound sum bytes = (e : Entry) → Fits e → NeverBegins (entry_bytes sum e) bytes

-- the bytes of this entry, and then these
pub record Begins (sum : ℕ) (bytes : List ℕ) (e : Entry) (rest : List ℕ) (after : ℕ) : Type 0 where
  pub fits : Fits e
  pub parts : bytes ≡ entry_bytes sum e ++ rest
  pub sum_is : after ≡ sum_after sum e

-- what the bytes begin with, where this is the check of all that stands before
abbrev pub IsNext : ℕ → List ℕ → Next → Type 0
IsNext sum bytes Short = IsShort sum bytes
IsNext sum bytes Unsound = IsUnsound sum bytes
IsNext sum bytes (Whole f) = Begins sum bytes (entry f.key f.message.now) f.rest.now f.sum

-- ---- the same behind the front of an entry

-- a first part of a message of this length with its check, and less than all of it
pub record IsShortMessage (len sum : ℕ) (bytes : List ℕ) : Type 0 where
  pub whole : List ℕ
  pub size : length whole ≡ len
  pub cut : IsCut (message_bytes sum whole) bytes

-- no message of this length with its check begins so
abbrev pub IsUnsoundMessage : ℕ → ℕ → List ℕ → Type 0
IsUnsoundMessage len sum bytes = (message : List ℕ) → length message ≡ len → NeverBegins (message_bytes sum message) bytes

-- a message of this length with its check, and then these bytes
pub record BeginsMessage (len sum : ℕ) (bytes message rest : List ℕ) (after : ℕ) : Type 0 where
  pub size : length message ≡ len
  pub parts : bytes ≡ message_bytes sum message ++ rest
  pub sum_is : after ≡ sum_of sum message

-- what the bytes begin with behind a front of this length and key
abbrev pub IsMessageNext : ℕ → ℕ → ℕ → List ℕ → Next → Type 0
IsMessageNext len key sum bytes Short = IsShortMessage len sum bytes
IsMessageNext len key sum bytes Unsound = IsUnsoundMessage len sum bytes
IsMessageNext len key sum bytes (Whole f) = BeginsMessage len sum bytes f.message.now f.rest.now f.sum × (f.key ≡ key)
