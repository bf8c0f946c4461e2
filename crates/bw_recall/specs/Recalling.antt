-- What bringing back a world from its journal does.
use Rattle.std.specs.Prelude.{◌≡◌, ◌⊎◌, ◌≤◌, ◌<◌, ◌+◌, ℕ, true, List, [], ◌++◌, length, Option, Some, Result, Ok, Err, ⊤}
use Rattle.bw_format.specs.declared.format.Format.{Format}
use Rattle.bw_http.specs.declared.request.Request.{Request}
use Rattle.bw_journal.specs.Journals.{Ends, Splits}
use Rattle.bw_journal.specs.Layout.{Entry, entry_bytes}
use Rattle.bw_journal.specs.Reading.{Begins, IsShort, IsUnsound}
use Rattle.bw_journal.specs.declared.limits.TheConstants.{MAX_ENTRY_BYTES}
use Rattle.bw_model.specs.Guards.{IsGuarded}
use Rattle.bw_model.specs.Sessions.{World}
use Rattle.bw_model.specs.Steps.{Step}
use Rattle.bw_world.specs.Seen.{Seen}
use Rattle.bw_world.specs.Stands.{StandsFor}
use Rattle.bw_bringing.specs.Bringing.{Sends, SendsNone, Brings}
use Rattle.bw_recall.specs.Windows.{Hand}
use Rattle.bw_recall.specs.declared.recalling.Recalled.{Recalled}
use Rattle.bw_recall.specs.declared.recalling.Recalled.TheVariants as recalled
use Rattle.bw_recall.specs.declared.recalling.Advance.{Advance}
use Rattle.bw_recall.specs.declared.recalling.Advance.TheVariants as advances
use Rattle.bw_recall.specs.declared.handling.One.{One}
use Rattle.bw_recall.specs.declared.handling.One.TheVariants as ones

-- ---- one message

-- the bytes send this request, or none; or there was no memory
abbrev pub IsWhole : List ℕ → Result Request One → Type 0
IsWhole message (Ok r) = Sends message r
IsWhole message (Err ones.NoRequest) = SendsNone message
IsWhole message (Err ones.Memory) = ⊤
IsWhole message (Err ones.Done) = ⊥

-- for each model world that the world stood for, it stands for the one behind the request
abbrev pub Handled : List Format → Seen → Seen → Request → ℕ → Type 0
Handled formats before now r key =
    (m : World) → StandsFor before m → (s : Step) × IsGuarded formats before.service m r key s × StandsFor now s.world

-- the request was handled, or there was no memory for it
abbrev pub IsHandledOne : List Format → Seen → Seen → Request → ℕ → One → Type 0
IsHandledOne formats before now r key ones.Done = Handled formats before now r key
IsHandledOne formats before now r key ones.Memory = now ≡ before
IsHandledOne formats before now r key ones.NoRequest = ⊥

-- the request that the message sends was handled, or it sends none, or there was no memory for it
abbrev pub IsOne : List Format → Seen → Seen → ℕ → List ℕ → One → Type 0
IsOne formats before now key message ones.Done = (r : Request) × Sends message r × Handled formats before now r key
IsOne formats before now key message ones.NoRequest = SendsNone message × (now ≡ before)
IsOne formats before now key message ones.Memory = now ≡ before

-- ---- one entry

-- what stands there is neither an entry nor a first part of one, or it is an entry whose message sends no request
abbrev pub IsWrong : ℕ → List ℕ → Type 0
IsWrong sum rest = IsUnsound sum rest ⊎ ((e : Entry) × (more : List ℕ) × (after : ℕ) × Begins sum rest e more after × SendsNone e.message)

-- the request of an entry of so many bytes was handled, and these bytes are left behind it; or there is no such entry, and
-- the world is as it was
abbrev pub IsAdvance : List Format → Seen → Seen → ℕ → List ℕ → List ℕ → Advance → Type 0
IsAdvance formats before now sum bytes rest (advances.Entry len after) =
    (e : Entry) × (r : Request) × Begins sum bytes e rest after × (len ≡ length (entry_bytes sum e)) × Sends e.message r
    × Handled formats before now r e.key
IsAdvance formats before now sum bytes rest advances.End = IsShort sum bytes × (now ≡ before)
IsAdvance formats before now sum bytes rest advances.Wrong = IsWrong sum bytes × (now ≡ before)
IsAdvance formats before now sum bytes rest advances.ReadFault = ⊥
IsAdvance formats before now sum bytes rest advances.Memory = now ≡ before

-- no entry is longer than the limit, and fewer bytes stand where there is less than an entry
abbrev pub IsShortEntry : Advance → Type 0
IsShortEntry (advances.Entry len after) = len ≤ MAX_ENTRY_BYTES
IsShortEntry advance = ⊤

abbrev pub IsFew : List ℕ → Advance → Type 0
IsFew bytes advances.End = length bytes < MAX_ENTRY_BYTES
IsFew bytes advance = IsShortEntry advance

-- the same of the bytes at hand and those that the source has left, where these are all told
pub record Advancing (formats : List Format) (before now : Seen) (sum : ℕ) (old new : Hand) (unread : List ℕ) (later : Option (List ℕ))
    (advance : Advance) : Type 0 where
  pub rest : List ℕ
  pub left : later ≡ Some rest
  pub ended : new.ended ≡ true → rest ≡ []
  pub advance_is : IsAdvance formats before now sum (old.bytes ++ unread) (new.bytes ++ rest) advance

abbrev pub Advances : List Format → Seen → Seen → ℕ → Hand → Hand → Option (List ℕ) → Option (List ℕ) → Advance → Type 0
Advances formats before now sum old new left later advances.ReadFault = now ≡ before
Advances formats before now sum old new left later advance =
    (unread : List ℕ) → left ≡ Some unread → (old.ended ≡ true → unread ≡ []) → Advancing formats before now sum old new unread later advance

-- ---- a journal

-- for each model world that the world stood for, it stands for the one that the entries bring about
abbrev pub Brought : List Format → Seen → Seen → List Entry → Type 0
Brought formats before now entries = (m : World) → StandsFor before m → (to : World) × Brings formats before.service m entries to × StandsFor now to

-- the bytes are these entries, which have so many bytes and this check behind them, and then these; and the world is the
-- one that the entries bring about
pub record Stands (formats : List Format) (before now : Seen) (sum : ℕ) (bytes : List ℕ) (entries : List Entry) (rest : List ℕ) (size after : ℕ) : Type 0 where
  pub splits : Splits sum bytes entries rest
  pub ends : Ends sum entries size after
  pub brought : Brought formats before now entries

-- What came of the entries behind so many bytes of the file and this check. Without memory, and where a read failed, the
-- world is that of some entries.
abbrev pub IsRecalledBehind : List Format → Seen → Seen → ℕ → ℕ → List ℕ → Recalled → Type 0
IsRecalledBehind formats before now from sum bytes (recalled.Done len after) =
    (entries : List Entry) × (tail : List ℕ) × (size : ℕ) × Stands formats before now sum bytes entries tail size after × IsShort after tail
    × (len ≡ from + size)
IsRecalledBehind formats before now from sum bytes (recalled.Damaged len) =
    (entries : List Entry) × (rest : List ℕ) × (size : ℕ) × (after : ℕ) × Stands formats before now sum bytes entries rest size after × IsWrong after rest
    × (len ≡ from + size)
IsRecalledBehind formats before now from sum bytes recalled.ReadFault = (entries : List Entry) × Brought formats before now entries
IsRecalledBehind formats before now from sum bytes recalled.Memory = (entries : List Entry) × Brought formats before now entries
IsRecalledBehind formats before now from sum bytes result = ⊥

-- the same of the bytes at hand and those that the source has left, where these are all told
abbrev pub Recalls : List Format → Seen → Seen → ℕ → ℕ → Hand → Option (List ℕ) → Recalled → Type 0
Recalls formats before now from sum hand left result =
    (unread : List ℕ) → left ≡ Some unread → (hand.ended ≡ true → unread ≡ []) → IsRecalledBehind formats before now from sum (hand.bytes ++ unread) result
