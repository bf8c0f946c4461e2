-- The worlds from which on every page is good.
use Rattle.std.specs.Prelude.{◌≡◌, ℕ}
use Rattle.bw_http.specs.declared.request.Request.{Request}
use Rattle.bw_lang.specs.Service.Submissions.{IsTextForm}
use Rattle.bw_lang.specs.declared.service.Service.{Service}
use Rattle.bw_model.specs.Reached.{Reached}
use Rattle.bw_model.specs.Sessions.{World, empty}
use Rattle.bw_model.specs.Steps.{step}
use Rattle.bw_schema.specs.declared.schema.Schema.{Schema}
use Rattle.bw_types.specs.declared.typed.Typed.{Typed}
use Rattle.bw_made.specs.Made.{IsItemsOf}
use Rattle.bw_made.specs.Worlds.{IsTextWorld}
use Rattle.bw_cover.specs.Worlds.{CoversWorld}
use Rattle.bw_analyse.specs.declared.facts.Facts.{Facts}
use Rattle.bw_analyse.specs.Facts.{AreFacts}
use Rattle.bw_sound.specs.Found.Seen.{known_of}
use Rattle.bw_check.specs.Accepts.{Accepts}

-- The service is well typed. What the world holds is covered by the facts of the service, and its documents are made of the
-- service's templates and of strings in UTF-8: the shared variables, and of each live session what it began with and what it
-- was sent since.
pub record IsSoundWorld (service : Service) (w : World) : Type 0 where
  pub typed : Typed
  pub is : typed.service ≡ service
  pub facts : Facts
  pub are : AreFacts service facts
  pub covered : CoversWorld service (known_of service facts) w
  pub made : IsTextWorld (IsItemsOf service) w

-- where a schema accepts the service: the world in which nothing was requested yet is sound, with any numbers to begin with
abbrev pub BeginsSound : Service → Type 0
BeginsSound service =
    (schema : Schema) (next first : ℕ) → Accepts service schema → IsSoundWorld service (record (empty service) { next = next; first = first })

-- So it is in each service that is well typed.
abbrev pub EmptyIsSound : Type 0
EmptyIsSound = (t : Typed) → BeginsSound t.service

-- In an accepted service each request with a form in UTF-8 keeps a world sound.
abbrev pub StepsKeepSound : Type 0
StepsKeepSound =
    (service : Service) (schema : Schema) (w : World) (request : Request) (key : ℕ) → Accepts service schema → IsTextForm request.form
    → IsSoundWorld service w → IsSoundWorld service (step service w request key).world

-- So each world that requests reach from a sound one is sound.
abbrev pub WorldsAreSound : Type 0
WorldsAreSound =
    (service : Service) (schema : Schema) (from to : World) → Accepts service schema → IsSoundWorld service from → Reached service from to
    → IsSoundWorld service to
