-- The requests of a made service are sent, one after another.
use Rattle.std.specs.Prelude.{◌≡◌, ℕ}
use Rattle.bw_http.specs.declared.request.Request.{Request}
use Rattle.bw_model.specs.Sessions.{World}
use Rattle.bw_model.specs.Steps.{step}
use Rattle.bw_questions.specs.Making.{page_length}
use Rattle.bw_world.specs.Seen.{Seen}
use Rattle.bw_world.specs.Stands.{StandsFor}

-- one request was sent, and a page of that length came, or none
abbrev pub IsSent : Seen → Seen → Request → ℕ → Type 0
IsSent old new request n =
    (m : World) → StandsFor old m
    → let next = step old.service m request 0 in (n ≡ page_length next.reply) × StandsFor new next.world
