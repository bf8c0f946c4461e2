-- Good replies of a world.
use Rattle.std.specs.Prelude.{ℕ}
use Rattle.bw_check.specs.Accepts.{Accepts}
use Rattle.bw_http.specs.declared.replies.Reply.{Reply}
use Rattle.bw_http.specs.declared.request.Request.{Request}
use Rattle.bw_model.specs.Sessions.{World}
use Rattle.bw_model.specs.Steps.{step}
use Rattle.bw_schema.specs.declared.schema.Schema.{Schema}
use Rattle.bw_sound.specs.Good.{IsGood}
use Rattle.bw_sound.specs.Worlds.{IsSoundWorld}
use Rattle.bw_world.specs.Seen.{Seen}
use Rattle.bw_world.specs.Stands.{StandsFor}

-- the world stands for a world of the meaning that is sound
pub record IsSound (w : Seen) : Type 0 where
  pub model : World
  pub stands : StandsFor w model
  pub sound : IsSoundWorld w.service model

-- a page of this reply is good by each schema that accepts the service, for each sound world that this one stands for
abbrev pub IsGoodReply : Seen → Request → ℕ → Reply → Type 0
IsGoodReply w request key reply =
    (schema : Schema) (m : World) → Accepts w.service schema → StandsFor w m → IsSoundWorld w.service m
    → IsGood w.service schema m (step w.service m request key).world reply

-- and there is such a world, whatever was requested before
abbrev pub HasGoodReply : Seen → Request → ℕ → Reply → Type 0
HasGoodReply w request key reply =
    (schema : Schema) → Accepts w.service schema
    → ∥ ((s : IsSound w) × IsGood w.service schema s.model (step w.service s.model request key).world reply) ∥₁
