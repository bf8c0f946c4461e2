-- What the bytes of a journal are.
use Rattle.std.specs.Prelude.{ℕ, ◌≡◌, List, ◌++◌, length}
use Rattle.std.specs.List.{AllByRecursion}
use Rattle.bw_journal.specs.Layout.{Entry, Fits, entries_bytes, last_sum}
use Rattle.bw_journal.specs.Reading.{IsShort, IsUnsound}

-- the bytes are these entries, and then these
pub record Splits (sum : ℕ) (bytes : List ℕ) (entries : List Entry) (rest : List ℕ) : Type 0 where
  pub fits : AllByRecursion Fits entries
  pub parts : bytes ≡ entries_bytes sum entries ++ rest

-- the bytes are these entries, and then a first part of one more and less than all of it, as a crash leaves it
pub record IsJournal (sum : ℕ) (bytes : List ℕ) (entries : List Entry) (tail : List ℕ) : Type 0 where
  pub splits : Splits sum bytes entries tail
  pub tail_is : IsShort (last_sum sum entries) tail

-- the bytes are these entries, and what follows them is neither an entry nor a first part of one
pub record IsDamaged (sum : ℕ) (bytes : List ℕ) (entries : List Entry) (rest : List ℕ) : Type 0 where
  pub splits : Splits sum bytes entries rest
  pub unsound : IsUnsound (last_sum sum entries) rest

-- the bytes of these entries are so many, and this is the check behind them
pub record Ends (sum : ℕ) (entries : List Entry) (len after : ℕ) : Type 0 where
  pub len_is : len ≡ length (entries_bytes sum entries)
  pub sum_is : after ≡ last_sum sum entries
