-- The worlds that requests reach.
use Rattle.std.specs.Prelude.{ℕ, List}
use Rattle.bw_format.specs.declared.format.Format.{Format}
use Rattle.bw_http.specs.declared.replies.Reply.{Reply}
use Rattle.bw_http.specs.declared.request.Request.{Request}
use Rattle.bw_lang.specs.Service.Submissions.{IsTextForm}
use Rattle.bw_lang.specs.declared.service.Service.{Service}
use Rattle.bw_model.specs.Runs.{At, Turns}
use Rattle.bw_model.specs.Sessions.{World}
use Rattle.bw_model.specs.Steps.{step}

-- the worlds that requests reach from this one on, each with a form in UTF-8, whatever key is drawn for it
pub data Reached (service : Service) (from : World) : World → Type 0 where
  none : Reached service from from
  one_more : (w : World) (request : Request) (key : ℕ) → IsTextForm request.form → Reached service from w
      → Reached service from (step service w request key).world

-- what is reached from a world that is reached is reached
abbrev pub ReachedOn : Type 0
ReachedOn = (service : Service) (from mid to : World) → Reached service from mid → Reached service mid to → Reached service from to

-- the messages of a stream reach no other worlds, with any formats of fields
abbrev pub StreamsReach : Type 0
StreamsReach =
    (formats : List Format) (service : Service) (from : World) (at to : At) (replies : List Reply) (cost : ℕ) → Turns formats service at replies cost to →
    Reached service from at.world → Reached service from to.world
