-- The bytes of entries.
use Rattle.std.specs.Prelude.{ℕ, ◌<◌, ◌≤◌, ◌+◌, ◌*◌, ◌%◌, ◌^◌, List, [], ◌∷◌, ◌++◌, length}
use Rattle.std.specs.Int.{w32, w64, to_be_bytes}
use Rattle.bw_journal.specs.declared.limits.TheConstants.{MAX_MESSAGE_BYTES}

-- a request: the key that was drawn for it, and the bytes of its message
pub record Entry : Type 0 where
  pub key : ℕ
  pub message : List ℕ

-- an entry that has bytes: its key has eight of them, and its message is within the limit
pub record Fits (e : Entry) : Type 0 where
  pub key : e.key < 2 ^ 64
  pub message : length e.message ≤ MAX_MESSAGE_BYTES

-- a check of 64 bits after one more byte
abbrev pub stirred : ℕ → ℕ → ℕ
stirred sum byte = ((sum + (byte + 1)) % 2 ^ 64 * 6364136223846793005) % 2 ^ 64

-- a check after more bytes
unfoldable pub sum_of : ℕ → List ℕ → ℕ
sum_of sum [] = sum
sum_of sum (byte ∷ bytes) = sum_of (stirred sum byte) bytes

-- a number in four bytes, the highest first
unfoldable pub four : ℕ → List ℕ
four n = to_be_bytes w32 n

-- a number in eight bytes, the highest first
unfoldable pub eight : ℕ → List ℕ
eight n = to_be_bytes w64 n

-- the front of an entry: how long the message is, and the key
abbrev pub front_bytes : ℕ → ℕ → List ℕ
front_bytes len key = four len ++ eight key

-- the check of all that stands before an entry and of its front
abbrev pub front_sum : ℕ → Entry → ℕ
front_sum sum e = sum_of sum (front_bytes (length e.message) e.key)

-- the check of all that stands before an entry, of its front and of its message
abbrev pub sum_after : ℕ → Entry → ℕ
sum_after sum e = sum_of (front_sum sum e) e.message

-- a message and the check behind it
abbrev pub message_bytes : ℕ → List ℕ → List ℕ
message_bytes sum message = message ++ eight (sum_of sum message)

-- The bytes of an entry, where this is the check of all that stands before: its front with the check so far, and its
-- message with the check so far.
abbrev pub entry_bytes : ℕ → Entry → List ℕ
entry_bytes sum e = front_bytes (length e.message) e.key ++ (eight (front_sum sum e) ++ message_bytes (front_sum sum e) e.message)

-- entries, one after another
abbrev pub entries_bytes : ℕ → List Entry → List ℕ
entries_bytes sum [] = []
entries_bytes sum (e ∷ es) = entry_bytes sum e ++ entries_bytes (sum_after sum e) es

-- the check behind them
abbrev pub last_sum : ℕ → List Entry → ℕ
last_sum sum [] = sum
last_sum sum (e ∷ es) = last_sum (sum_after sum e) es
