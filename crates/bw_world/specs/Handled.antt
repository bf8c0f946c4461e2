-- What a request with formats does to a world.
use Rattle.std.specs.Prelude.{◌≡◌, ℕ, List, Option, Some, None}
use Rattle.bw_check.specs.Accepts.{Accepts}
use Rattle.bw_format.specs.declared.format.Format.{Format}
use Rattle.bw_model.specs.Guards.{FirstOutside, IsGuarded, stored, outside_reply}
use Rattle.bw_model.specs.Within.{AreWithin}
use Rattle.bw_http.specs.declared.replies.Reply.{Reply}
use Rattle.bw_http.specs.declared.request.Request.{Request}
use Rattle.bw_model.specs.Received.{number_of_field}
use Rattle.bw_model.specs.Sessions.{World}
use Rattle.bw_model.specs.Steps.{Step, step}
use Rattle.bw_schema.specs.declared.schema.Schema.{Schema}
use Rattle.bw_sound.specs.Good.{IsGood}
use Rattle.bw_sound.specs.Worlds.{IsSoundWorld}
use Rattle.bw_world.specs.Seen.{Seen}
use Rattle.bw_world.specs.Stands.{StandsFor, Ends}

-- the form was turned away by this field: that is the reply, the world is as before, and no step was counted
pub record IsTurnedAway (old new : Seen) (answer : Reply) (before after : ℕ) (field : List ℕ) : Type 0 where
  pub reply : answer ≡ outside_reply (number_of_field old.service field)
  pub world : new ≡ old
  pub cost : after ≡ before

-- it was turned away by this field; or by none, and the step was taken, or there was no memory for it
abbrev pub EndsBy : Seen → Seen → Reply → ℕ → ℕ → Step → Option (List ℕ) → Type 0
EndsBy old new answer before after step None = Ends old new answer before after step
EndsBy old new answer before after step (Some field) = IsTurnedAway old new answer before after field

-- by the first field that would be stored and has a value outside its format
pub record IsHandled (formats : List Format) (old new : Seen) (request : Request) (key : ℕ) (answer : Reply) (before after : ℕ) (m : World) : Type 0 where
  pub first : Option (List ℕ)
  pub is_first : FirstOutside formats request.form (stored old.service m request) first
  pub ends : EndsBy old new answer before after (step old.service m request key) first

-- so for each model world that the world stands for
abbrev pub Handles : List Format → Seen → Seen → Request → ℕ → Reply → ℕ → ℕ → Type 0
Handles formats old new request key answer before after =
    (m : World) → StandsFor old m → IsHandled formats old new request key answer before after m

-- a page of this reply is good by each schema that accepts the service, for each sound world that this one stands for
abbrev pub IsGoodReply : List Format → Seen → Request → ℕ → Reply → Type 0
IsGoodReply formats w request key reply =
    (schema : Schema) (m : World) (s : Step) → Accepts w.service schema → StandsFor w m → IsSoundWorld w.service m
    → IsGuarded formats w.service m request key s → IsGood w.service schema m s.world reply

-- where the world stands for a model world whose sessions stored values within the formats alone, it stands for one behind it
abbrev pub KeepsWithin : List Format → Seen → Seen → Type 0
KeepsWithin formats old new =
    (m : World) → StandsFor old m → AreWithin formats old.service m → (then : World) × StandsFor new then × AreWithin formats old.service then
