-- Laws of visits.
use Rattle.std.specs.Prelude.{◌≡◌, ℕ, false, List, None, Some}
use Rattle.std.specs.List.{AllByRecursion}
use Rattle.std.specs.Option.{option_map}
use Rattle.bw_agent.specs.Forms.{form_in}
use Rattle.bw_check.specs.Accepts.{Accepts}
use Rattle.bw_cover.specs.Received.{received_of}
use Rattle.bw_format.specs.declared.format.Format.{Format}
use Rattle.bw_http.specs.Paths.{IsForm, spelling}
use Rattle.bw_http.specs.declared.replies.Reply.{Reply}
use Rattle.bw_http.specs.declared.request.Path.TheVariants.{Start}
use Rattle.bw_made.specs.Made.{IsPageOf, IsItemsOf}
use Rattle.bw_meaning.specs.States.{Form, Shown, Rests}
use Rattle.bw_meaning.specs.Values.{Document, Values}
use Rattle.bw_model.specs.Received.{receives_of, first_refusal}
use Rattle.bw_model.specs.Sessions.{Talk, empty, now}
use Rattle.bw_out.specs.Told.{AreWords}
use Rattle.bw_page.specs.Pages.{exit_page}
use Rattle.bw_run.specs.Missing.{first_missing}
use Rattle.bw_schema.specs.declared.schema.Schema.{Schema}
use Rattle.bw_types.specs.declared.typed.Typed.{Typed}
use Rattle.bw_user.specs.Messages.{get}
use Rattle.bw_world.specs.Streams.Courses.{Between}
use Rattle.bw_visit.specs.Visits.{End, Visits, is_amiss}
use Rattle.bw_waiting.specs.Worlds.{IsKindedTalk}
use Rattle.bw_world.specs.Changes.{refused}

-- a form is refused at a show by the fields that the check has judged for it
abbrev pub RefusedAlike : Type 0
RefusedAlike =
    (t : Typed) (talk : Talk) (at : ℕ) (locals : Values) (rests : Rests) (shown : Document) (shared : Values) (units : ℕ) → IsKindedTalk t.service talk
    → now t.service talk ≡ Shown at locals rests shown shared units → (form : Form)
    → first_refusal t.service (receives_of t.service talk.session at) locals form
    ≡ option_map refused (first_missing (received_of t.service talk.session at) form)

-- a session's last page has no form
abbrev pub LastPagesHaveNoForm : Type 0
LastPagesHaveNoForm = (t : Typed) (title : List ℕ) (d : Document) → IsPageOf (IsItemsOf t.service) d → form_in (exit_page title d.tree) ≡ None

-- Where a schema accepts a service, a scripted user is never told that a field is lacking or repeated: from the world on in
-- which nothing was requested yet, whatever its script, with any formats of fields.
abbrev pub VisitsAreTaken : Type 0
VisitsAreTaken =
    (formats : List Format) (t : Typed) (schema : Schema) → Accepts t.service schema
    → (from to : Between) (name lines : List ℕ) (replies : List Reply) (end : End)
    → IsForm (Start name) → from.world ≡ empty t.service → AreWords (Some from.keys)
    → Visits formats t.service from (get (spelling (Start name))) lines replies to end → AllByRecursion (λ (r : Reply). is_amiss r ≡ false) replies
