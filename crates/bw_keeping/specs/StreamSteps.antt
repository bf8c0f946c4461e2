-- What one call in the midst of a stream beside a journal did.
-- It only follows the steps of the code: nothing is promised by it.
use Rattle.std.specs.Prelude.{◌≡◌, ◌≢◌, ◌⊎◌, ◌≤◌, ◌+◌, ℕ, List, [], ◌∷◌, ◌++◌, Option, Some, ⊤}
use Rattle.std.specs.Io.KnownBytes.{Appends}
use Rattle.bw_format.specs.declared.format.Format.{Format}
use Rattle.bw_http.specs.Messages.{IsShort}
use Rattle.bw_http.specs.declared.replies.Reply.{Reply}
use Rattle.bw_journal.specs.Layout.{last_sum}
use Rattle.bw_lang.specs.declared.service.Service.{Service}
use Rattle.bw_model.specs.Runs.{At, Stops, answer_of, want, wants}
use Rattle.bw_out.specs.Doors.{Returned}
use Rattle.bw_out.specs.Writes.{AppendsPart}
use Rattle.bw_stable.specs.Deeds.{Deed}
use Rattle.bw_world.specs.Streams.Answers.{IsAt}
use Rattle.bw_world.specs.Streams.Courses.{bytes_by}
use Rattle.bw_keeping.specs.Streamed.{AreKeptAt, IsHandled, Message, Sight}
use Rattle.bw_keeping.specs.declared.lent.Handler.{Handler}
use Rattle.bw_keeping.specs.declared.streaming.Next.{Next}
use Rattle.bw_keeping.specs.declared.streaming.Next.TheVariants as nexts

-- the same things are lent
abbrev pub AreSame : {K S : Type 0} → Handler K S → Handler K S → Type 0
AreSame before now =
    (now.world.ghost_name ≡ before.world.ghost_name) × (now.keys.ghost_name ≡ before.keys.ghost_name) × (now.steps.ghost_name ≡ before.steps.ghost_name)
    × (now.formats.now ≡ before.formats.now)

-- a message was handled, and what is kept of it was kept
pub record IsKeptOne (formats : List Format) (service : Service) (returned : Option (List Returned)) (before after : Sight) (at to : At)
    (written : List ℕ) (done : List Deed) (x : Message) : Type 0 where
  pub handled : IsHandled formats service at x to
  pub piece : List Deed
  pub kept : AreKeptAt before.sum x.entries returned written piece
  pub deeds : after.deeds ≡ Some (done ++ piece)
  pub steps : after.place.steps ≡ before.place.steps + x.cost
  pub sum : after.sum ≡ last_sum before.sum x.entries

-- nothing was handled
pub record IsQuiet (before after : Sight) (done : List Deed) : Type 0 where
  pub deeds : after.deeds ≡ Some done
  pub steps : after.place.steps ≡ before.place.steps
  pub sum : after.sum ≡ before.sum

-- one message was answered, or none follows
abbrev pub Going : List Format → Service → Option (List Returned) → Sight → Sight → At → At → List ℕ → List Deed → Next → Type 0
Going formats service returned before after at to written done (nexts.Answered count) =
    (x : Message) × IsKeptOne formats service returned before after at to written done x
    × Appends (Some written) after.place.held (bytes_by service x.reply) × (count ≡ want x.reply)
Going formats service returned before after at to written done nexts.Ended =
    (last : List Reply) × Stops at last to × IsQuiet before after done × Appends (Some written) after.place.held (answer_of service last)
    × (wants last ≡ 0)
Going formats service returned before after at to written done nexts.ReadFault =
    (to ≡ at) × IsShort after.place.taken × IsQuiet before after done × (after.place.held ≡ Some written)
Going formats service returned before after at to written done nexts.WriteFault =
    ((x : Message) × IsKeptOne formats service returned before after at to written done x
    × AppendsPart (Some written) after.place.held (bytes_by service x.reply))
    ⊎ ((reply : Reply) × Stops at (reply ∷ []) to × IsQuiet before after done
    × AppendsPart (Some written) after.place.held (bytes_by service reply))
Going formats service returned before after at to written done nexts.JournalFault =
    (x : Message) × IsHandled formats service at x to × (x.entries ≢ []) × (after.deeds ≡ Some done)
    × (after.place.steps ≡ before.place.steps + x.cost) × (after.place.held ≡ Some written)

abbrev pub Goes : List Format → Service → Option (List Returned) → Sight → Sight → Next → Type 0
Goes formats service returned before after next =
    (at : At) (written : List ℕ) (done : List Deed) → IsAt before.place at → before.place.held ≡ Some written → before.deeds ≡ Some done
    → (to : At) × IsAt after.place to × Going formats service returned before after at to written done next

-- a message gives one want at most
abbrev pub IsFew : Next → Type 0
IsFew (nexts.Answered count) = count ≤ 1
IsFew next = ⊤
