-- Entries that are to be kept together.
use Rattle.std.specs.Prelude.{◌≡◌, ◌≤◌, ℕ, true, false, List, [], ◌∷◌, ◌++◌}
use Rattle.bw_http.specs.declared.replies.Reply.{Reply}
use Rattle.bw_journal.specs.Layout.{Entry, entries_bytes, last_sum}
use Rattle.bw_journal.specs.Reading.{entry}
use Rattle.bw_journal.specs.declared.limits.TheConstants.{MAX_ENTRY_BYTES}
use Rattle.bw_model.specs.Laws.{is_page}

-- a group: the bytes of its entries, the check behind them, and how many more bytes there is memory for
pub record Grouped : Type 0 where
  pub bytes : List ℕ
  pub sum : ℕ
  pub room : ℕ

-- there is memory for one entry more, however long it is
abbrev pub HasRoom : Grouped → Type 0
HasRoom group = MAX_ENTRY_BYTES ≤ group.room

-- it has no entry, and there is memory for one
abbrev pub IsReady : Grouped → Type 0
IsReady group = (group.bytes ≡ []) × HasRoom group

-- these entries were put behind the others
pub record Grows (before after : Grouped) (entries : List Entry) : Type 0 where
  pub bytes : after.bytes ≡ before.bytes ++ entries_bytes before.sum entries
  pub sum : after.sum ≡ last_sum before.sum entries

-- the entry of a request was put there where its reply is a page, and elsewhere nothing
pub record IsKept (before after : Grouped) (key : ℕ) (message : List ℕ) (reply : Reply) : Type 0 where
  pub page : is_page reply ≡ true → Grows before after (entry key message ∷ [])
  pub other : is_page reply ≡ false → after ≡ before
