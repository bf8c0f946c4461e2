-- Laws of journals.
use Rattle.std.specs.Prelude.{ℕ, ◌≡◌, List, ◌++◌}
use Rattle.std.specs.List.{AllByRecursion}
use Rattle.bw_journal.specs.Journals.{IsJournal, IsDamaged}
use Rattle.bw_journal.specs.Layout.{Entry, Fits, entries_bytes, last_sum}

-- bytes are a journal of one list of entries
abbrev pub ReadsOnce : Type 0
ReadsOnce =
    (sum : ℕ) (bytes : List ℕ) (entries others : List Entry) (tail rest : List ℕ) → IsJournal sum bytes entries tail → IsJournal sum bytes others rest
    → (entries ≡ others) × (tail ≡ rest)

-- a journal isn't damaged
abbrev pub NotBoth : Type 0
NotBoth =
    (sum : ℕ) (bytes : List ℕ) (entries others : List Entry) (tail rest : List ℕ) → IsJournal sum bytes entries tail → IsDamaged sum bytes others rest → ⊥

-- the bytes are a journal, of the entries before and of the first of more
pub record IsCutJournal (sum : ℕ) (before more : List Entry) (bytes : List ℕ) : Type 0 where
  pub kept : List Entry
  pub lost : List Entry
  pub tail : List ℕ
  pub all : more ≡ kept ++ lost
  pub journal : IsJournal sum bytes (before ++ kept) tail

-- behind entries some first part of more entries is a journal: of the former and of the first of the latter
abbrev pub CutsAreRead : Type 0
CutsAreRead =
    (sum : ℕ) (before more : List Entry) (front rest : List ℕ) → AllByRecursion Fits before → AllByRecursion Fits more
    → front ++ rest ≡ entries_bytes (last_sum sum before) more → IsCutJournal sum before more (entries_bytes sum before ++ front)
