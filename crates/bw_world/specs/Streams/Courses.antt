-- How a stream was answered.
use Rattle.std.specs.Prelude.{◌≡◌, ◌≤◌, ◌<◌, ℕ, List, [], ◌∷◌, ◌++◌, length, Option, Some}
use Rattle.std.specs.Io.KnownBytes.{Appends}
use Rattle.bw_format.specs.declared.format.Format.{Format}
use Rattle.bw_http.specs.Messages.{IsShort}
use Rattle.bw_http.specs.Replies.{bytes_of}
use Rattle.bw_http.specs.declared.replies.Reply.{Reply}
use Rattle.bw_lang.specs.Table.Names.{with_names}
use Rattle.bw_lang.specs.declared.service.Service.{Service}
use Rattle.bw_model.specs.Runs.{At, Turns, Run, wants, answer_of}
use Rattle.bw_model.specs.Sessions.{World}
use Rattle.bw_out.specs.Told.{Coming}
use Rattle.bw_types.specs.Fields.{field_names}
use Rattle.bw_world.specs.declared.ends.StreamEnd.{StreamEnd}
use Rattle.bw_world.specs.declared.ends.StreamEnd.TheVariants.{Ended, ReadFault, WriteFault}

-- between two streams: the world, the keys to come, and the steps so far
pub record Between : Type 0 where
  pub world : World
  pub keys : Coming
  pub steps : ℕ

-- a stream of these bytes begins there
abbrev pub begins : Between → List ℕ → At
begins from bytes = record { world = from.world; bytes = bytes; keys = from.keys }

-- these bytes are those that were taken and not used, and then those that are left to read
abbrev pub AreLeft : List ℕ → Option (List ℕ) → List ℕ → Type 0
AreLeft taken left bytes = (unread : List ℕ) × (left ≡ Some unread) × (bytes ≡ taken ++ unread)

-- the bytes of one reply of a service
abbrev pub bytes_by : Service → Reply → List ℕ
bytes_by service reply = bytes_of (with_names [] (field_names service)) reply

-- the replies but the last were appended whole to what was held, and of the last a first part
pub record IsBroken (service : Service) (held now : Option (List ℕ)) (replies : List Reply) : Type 0 where
  pub earlier : List Reply
  pub last : Reply
  pub front : List ℕ
  pub back : List ℕ
  pub all : replies ≡ earlier ++ last ∷ []
  pub part : front ++ back ≡ bytes_by service last
  pub holds : Appends held now (answer_of service earlier ++ front)

-- How at most so many messages were answered, with these formats of fields: from there to there, by what was held and what is held now, with these bytes
-- taken and not used, at this cost. By one run, whose answer was appended; before a read fault by the messages before it,
-- and no further one is whole in what was taken; before a write fault by a run of as many messages as there are replies, of
-- which the last was appended in a first part.
abbrev pub Course : List Format → Service → ℕ → At → At → Option (List ℕ) → Option (List ℕ) → List ℕ → ℕ → StreamEnd → Type 0
Course formats service most at to held now taken cost (Ended count) =
    (replies : List Reply) × Run formats service most at replies cost to × Appends held now (answer_of service replies) × (count ≡ wants replies)
Course formats service most at to held now taken cost ReadFault =
    (replies : List Reply) × Turns formats service at replies cost to × (length replies < most) × Appends held now (answer_of service replies) × IsShort taken
Course formats service most at to held now taken cost WriteFault =
    (replies : List Reply) × Run formats service (length replies) at replies cost to × (length replies ≤ most) × IsBroken service held now replies
