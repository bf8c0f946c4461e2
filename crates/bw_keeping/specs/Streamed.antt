-- Messages of a stream that were answered one after another, over one world and beside a journal.
use Rattle.std.specs.Prelude.{◌≡◌, ◌≢◌, ◌⊎◌, ◌≤◌, ◌<◌, ◌+◌, ℕ, List, [], ◌∷◌, ◌++◌, length, Option, Some}
use Rattle.std.specs.Io.KnownBytes.{Appends}
use Rattle.bw_format.specs.declared.format.Format.{Format}
use Rattle.bw_http.specs.Messages.{IsShort}
use Rattle.bw_http.specs.declared.replies.Reply.{Reply}
use Rattle.bw_journal.specs.Layout.{Entry, entries_bytes, last_sum}
use Rattle.bw_lang.specs.declared.service.Service.{Service}
use Rattle.bw_model.specs.Runs.{At, Stops, Turn, answer_of, wants}
use Rattle.bw_out.specs.Doors.{Returned}
use Rattle.bw_stable.specs.Deeds.{Deed, kept}
use Rattle.bw_world.specs.Streams.Answers.{IsAt, Place}
use Rattle.bw_world.specs.Streams.Courses.{IsBroken, bytes_by}
use Rattle.bw_keeping.specs.Entering.{IsEntered}
use Rattle.bw_keeping.specs.declared.ended.StreamEnded.{StreamEnded}
use Rattle.bw_keeping.specs.declared.ended.StreamEnded.TheVariants.{Ended, ReadFault, WriteFault, JournalFault}

-- ---- messages

-- a message that was handled: its reply, what that cost, and what is kept of it
pub record Message : Type 0 where
  pub reply : Reply
  pub cost : ℕ
  pub entries : List Entry

-- it was handled between there and there
pub record IsHandled (formats : List Format) (service : Service) (at : At) (x : Message) (to : At) : Type 0 where
  pub turn : Turn formats service at x.reply x.cost to
  pub entered : IsEntered formats service at to x.entries

-- messages were handled one after another
abbrev pub AreHandled : List Format → Service → At → List Message → At → Type 0
AreHandled formats service at [] to = to ≡ at
AreHandled formats service at (x ∷ xs) to = (mid : At) × IsHandled formats service at x mid × AreHandled formats service mid xs to

-- their replies
abbrev pub replies_to : List Message → List Reply
replies_to [] = []
replies_to (x ∷ xs) = x.reply ∷ replies_to xs

-- what they cost together
abbrev pub costs_of : List Message → ℕ
costs_of [] = 0
costs_of (x ∷ xs) = x.cost + costs_of xs

-- what is kept of all of them, in order
abbrev pub entries_of : List Message → List Entry
entries_of [] = []
entries_of (x ∷ xs) = x.entries ++ entries_of xs

-- ---- what is kept of them, and when

-- These entries were kept in one piece behind this check, when these links had been given back and just these bytes were written.
-- Where there are none nothing was done.
abbrev pub AreKeptAt : ℕ → List Entry → Option (List Returned) → List ℕ → List Deed → Type 0
AreKeptAt sum [] returned written deeds = deeds ≡ []
AreKeptAt sum (e ∷ es) returned written deeds = deeds ≡ kept (entries_bytes sum (e ∷ es)) returned (Some written) ∷ []

-- What is kept of messages was kept message by message, behind this check. When a message's was kept, what had been written was
-- what was written before all of them, and the replies to the messages in front, each of them whole: so no byte of its own reply.
abbrev pub AreKeptFirst : Service → ℕ → Option (List Returned) → List ℕ → List Message → List Deed → Type 0
AreKeptFirst service sum returned written [] deeds = deeds ≡ []
AreKeptFirst service sum returned written (x ∷ xs) deeds =
    (piece : List Deed) × (later : List Deed) × (deeds ≡ piece ++ later) × AreKeptAt sum x.entries returned written piece
    × AreKeptFirst service (last_sum sum x.entries) returned (written ++ bytes_by service x.reply) xs later

-- ---- how it ended

-- What was written behind these messages, where it ended so. Where it is over, as many messages were answered as may be, or none follows
-- and what is none was refused. Before a read fault no further message is whole in what was taken. Where a write failed a first
-- part of the last reply is there. Before a journal's fault one message more was handled, but what was to be kept of it wasn't, and
-- no byte of its reply was written.
abbrev pub IsOver : List Format → Service → ℕ → List ℕ → List Message → At → At → Place → ℕ → StreamEnded → Type 0
IsOver formats service most written xs mid to now later (Ended count) =
    (last : List Reply) × (((length xs ≡ most) × (last ≡ []) × (to ≡ mid)) ⊎ ((length xs < most) × Stops mid last to))
    × Appends (Some written) now.held (answer_of service (replies_to xs ++ last)) × (count ≡ wants (replies_to xs ++ last)) × (later ≡ 0)
IsOver formats service most written xs mid to now later ReadFault =
    (to ≡ mid) × (length xs < most) × Appends (Some written) now.held (answer_of service (replies_to xs)) × IsShort now.taken × (later ≡ 0)
IsOver formats service most written xs mid to now later WriteFault =
    (last : List Reply) × (((length xs ≤ most) × (last ≡ []) × (to ≡ mid)) ⊎ ((length xs < most) × Stops mid last to))
    × IsBroken service (Some written) now.held (replies_to xs ++ last) × (later ≡ 0)
IsOver formats service most written xs mid to now later JournalFault =
    (lost : Message) × IsHandled formats service mid lost to × (lost.entries ≢ []) × (length xs < most)
    × Appends (Some written) now.held (answer_of service (replies_to xs)) × (later ≡ lost.cost)

-- ---- a stream

-- what is seen between two messages of a stream: its place, what was done to the journal, and the check behind what is put into it
pub record Sight : Type 0 where
  pub place : Place
  pub deeds : Option (List Deed)
  pub sum : ℕ

abbrev pub sight : Place → Option (List Deed) → ℕ → Sight
sight place deeds sum = record { place = place; deeds = deeds; sum = sum }

-- Messages of a stream were answered from there on, one after another, and what is kept of each was kept before a byte of its reply
-- was written, by a door that had given back these links. So it stands now, behind the last of them.
pub record HasStreamed (formats : List Format) (service : Service) (most : ℕ) (returned : Option (List Returned)) (sum steps : ℕ) (at : At)
    (written : List ℕ) (done : List Deed) (after : Sight) (end : StreamEnded) : Type 0 where
  pub messages : List Message
  pub mid : At
  pub to : At
  pub pieces : List Deed
  pub later : ℕ
  pub handled : AreHandled formats service at messages mid
  pub kept : AreKeptFirst service sum returned written messages pieces
  pub over : IsOver formats service most written messages mid to after.place later end
  pub stands : IsAt after.place to
  pub deeds : after.deeds ≡ Some (done ++ pieces)
  pub steps_are : after.place.steps ≡ steps + (costs_of messages + later)
  pub sum_is : end ≢ JournalFault → after.sum ≡ last_sum sum (entries_of messages)

-- So it is for each place of a model stream at which the code stood, where what is written and what was done to the journal is told.
abbrev pub Streams : List Format → Service → ℕ → Option (List Returned) → Sight → Sight → StreamEnded → Type 0
Streams formats service most returned before after end =
    (at : At) (written : List ℕ) (done : List Deed) → IsAt before.place at → before.place.held ≡ Some written → before.deeds ≡ Some done
    → HasStreamed formats service most returned before.sum before.place.steps at written done after end
