-- Laws of streams that are answered beside a journal.
use Rattle.std.specs.Prelude.{◌≡◌, ℕ, List, ◌++◌, Option}
use Rattle.std.specs.List.{AllByRecursion}
use Rattle.bw_format.specs.declared.format.Format.{Format}
use Rattle.bw_journal.specs.Layout.{Entry, Fits, last_sum}
use Rattle.bw_journal.specs.Starts.{Start, sum_at}
use Rattle.bw_lang.specs.declared.service.Service.{Service}
use Rattle.bw_model.specs.Runs.{At, answer_of}
use Rattle.bw_model.specs.Sessions.{World}
use Rattle.bw_out.specs.Doors.{Returned}
use Rattle.bw_stable.specs.Deeds.{Deed, MayLeave}
use Rattle.bw_bringing.specs.Bringing.{Brings}
use Rattle.bw_survival.specs.Restarts.{IsFileOf, file_of}
use Rattle.bw_keeping.specs.Streamed.{AreHandled, AreKeptFirst, Message, entries_of, replies_to}

-- what is kept of messages that were handled one after another brings about the world that they left
abbrev pub HandledBring : Type 0
HandledBring =
    (formats : List Format) (service : Service) (at : At) (messages : List Message) (to : At) → AreHandled formats service at messages to
    → Brings formats service at.world (entries_of messages) to.world

-- what is kept of messages has bytes
abbrev pub HandledFit : Type 0
HandledFit =
    (formats : List Format) (service : Service) (at : At) (messages : List Message) (to : At) → AreHandled formats service at messages to
    → AllByRecursion Fits (entries_of messages)

-- The first deeds kept what is kept of the first messages, and the others what is kept of those behind them, behind the
-- replies to the first.
pub record AreParted (service : Service) (sum : ℕ) (returned : Option (List Returned)) (written : List ℕ) (messages : List Message)
    (done undone : List Deed) : Type 0 where
  pub first : List Message
  pub others : List Message
  pub all : messages ≡ first ++ others
  pub before : AreKeptFirst service sum returned written first done
  pub behind : AreKeptFirst service (last_sum sum (entries_of first)) returned (written ++ answer_of service (replies_to first)) others undone

-- so it is wherever the deeds are parted
abbrev pub KeptFirstInParts : Type 0
KeptFirstInParts =
    (service : Service) (sum : ℕ) (returned : Option (List Returned)) (written : List ℕ) (messages : List Message) (done undone : List Deed)
    → AreKeptFirst service sum returned written messages (done ++ undone) → AreParted service sum returned written messages done undone

-- The file is a journal: of the entries before, of what is kept of the first messages, by the pieces that were kept whole, and of
-- the first entries of what is kept of the others. No byte of a reply was written by then but to these, and to those of which nothing
-- is kept, since the next piece was to be kept before. From the world that these entries bring about, the lost ones bring about the
-- world that all messages left.
pub record Survives (formats : List Format) (service : Service) (origin to : World) (start : Start) (before : List Entry)
    (returned : Option (List Returned)) (written : List ℕ) (messages : List Message) (done undone : List Deed) (file : List ℕ) : Type 0 where
  pub parts : AreParted service (last_sum (sum_at start) before) returned written messages done undone
  pub found : List Entry
  pub lost : List Entry
  pub others_are : entries_of parts.others ≡ found ++ lost
  pub is_file : IsFileOf start (before ++ (entries_of parts.first ++ found)) file
  pub world : World
  pub brings : Brings formats service origin (before ++ (entries_of parts.first ++ found)) world
  pub goes_on : Brings formats service world lost to

-- so it is whenever a crash comes, and whatever it leaves of the piece that was in flight
abbrev pub StreamsSurvive : Type 0
StreamsSurvive =
    (formats : List Format) (service : Service) (origin : World) (start : Start) (before : List Entry) (at : At) (messages : List Message) (to : At)
    (returned : Option (List Returned)) (written : List ℕ) (deeds : List Deed) (left : List ℕ) → AllByRecursion Fits before
    → Brings formats service origin before at.world → AreHandled formats service at messages to
    → AreKeptFirst service (last_sum (sum_at start) before) returned written messages deeds → (may : MayLeave deeds (file_of start before) left)
    → Survives formats service origin to.world start before returned written messages may.done may.undone left
