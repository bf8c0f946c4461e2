-- How a stream was answered, and where that leaves the code.
use Rattle.std.specs.Prelude.{◌≡◌, ◌+◌, ℕ, List, Option, Some}
use Rattle.bw_format.specs.declared.format.Format.{Format}
use Rattle.bw_lang.specs.declared.service.Service.{Service}
use Rattle.bw_model.specs.Runs.{At}
use Rattle.bw_out.specs.declared.outside.Channel.{Ghosts}
use Rattle.bw_out.specs.Told.{Coming}
use Rattle.bw_world.specs.Seen.{Seen}
use Rattle.bw_world.specs.Stands.{StandsFor}
use Rattle.bw_world.specs.Streams.Courses.{AreLeft, Course}
use Rattle.bw_world.specs.declared.ends.StreamEnd.{StreamEnd}

-- where the code stands in a stream: the world, the bytes at hand, what is left to read, what is held, the keys to
-- come, and the steps so far
pub record Place : Type 0 where
  pub seen : Seen
  pub taken : List ℕ
  pub left : Option (List ℕ)
  pub held : Option (List ℕ)
  pub keys : Option Coming
  pub steps : ℕ

abbrev pub place : {C : Type 0} → Ghosts C → Seen → List ℕ → C → Option Coming → ℕ → Place
place channel seen taken link keys steps =
    record { seen = seen; taken = taken; left = channel.left link; held = channel.held link; keys = keys; steps = steps }

-- the same, of a source and a sink apart
abbrev pub between : Seen → List ℕ → Option (List ℕ) → Option (List ℕ) → Option Coming → ℕ → Place
between seen taken left held keys steps = record { seen = seen; taken = taken; left = left; held = held; keys = keys; steps = steps }

-- where the bytes and the keys are told: the code stands there
pub record IsAt (place : Place) (at : At) : Type 0 where
  pub stands : StandsFor place.seen at.world
  pub bytes : AreLeft place.taken place.left at.bytes
  pub keys : place.keys ≡ Some at.keys

-- For each place of a model stream at which the code stood, the stream was answered so with these formats, and the code
-- stands behind it now. So a further call goes on from there.
abbrev pub Answers : List Format → Service → ℕ → Place → Place → StreamEnd → Type 0
Answers formats service most old new end =
    (at : At) → IsAt old at → (to : At) × (cost : ℕ) × IsAt new to × (new.steps ≡ old.steps + cost)
    × Course formats service most at to old.held new.held new.taken cost end
