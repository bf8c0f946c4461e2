-- One message, answered in memory.
use Rattle.std.specs.Prelude.{◌≡◌, ℕ, List, Option, Some}
use Rattle.bw_format.specs.declared.format.Format.{Format}
use Rattle.bw_http.specs.declared.replies.Reply.{Reply}
use Rattle.bw_out.specs.Told.{Coming}
use Rattle.bw_out.specs.declared.outside.Keys as keys
use Rattle.bw_world.specs.Seen.{Seen}
use Rattle.bw_world.specs.Stands.{StandsFor}
use Rattle.bw_world.specs.Streams.Courses.{bytes_by, Between}
use Rattle.bw_visit.specs.Visits.{Exchange}
use Rattle.bw_visit.specs.declared.lent.Host.{Host}

-- what the code has between two messages: the formats of fields, a world, the keys to come where told, and the steps so far
pub record Standing : Type 0 where
  pub formats : List Format
  pub seen : Seen
  pub keys : Option Coming
  pub steps : ℕ

abbrev pub standing : {K : Type 0} → keys.Ghosts K → Host K ℕ → Standing
standing draws host = record { formats = host.formats.now; seen = host.world.now; keys = draws.coming host.keys.now; steps = host.steps.now }

-- the same things are lent
abbrev pub AreSame : {K S : Type 0} → Host K S → Host K S → Type 0
AreSame before now =
    (now.world.ghost_name ≡ before.world.ghost_name) × (now.keys.ghost_name ≡ before.keys.ghost_name) × (now.steps.ghost_name ≡ before.steps.ghost_name)
    × (now.formats.now ≡ before.formats.now)

-- it stands between these two messages
pub record IsBetween (code : Standing) (at : Between) : Type 0 where
  pub world : StandsFor code.seen at.world
  pub keys : code.keys ≡ Some at.keys
  pub steps : code.steps ≡ at.steps

-- the message was answered by one reply, whose bytes are these, and the code stands behind it now
pub record IsExchanged (old : Standing) (from : Between) (message : List ℕ) (new : Standing) (bytes : List ℕ) : Type 0 where
  pub to : Between
  pub reply : Reply
  pub stands : IsBetween new to
  pub exchange : Exchange old.formats old.seen.service from message reply to
  pub is : bytes ≡ bytes_by old.seen.service reply

-- so from wherever the code stood
abbrev pub Exchanges : (message : List ℕ) → (old new : Standing) → (bytes : List ℕ) → Type 0
Exchanges message old new bytes = (from : Between) → IsBetween old from → IsExchanged old from message new bytes
