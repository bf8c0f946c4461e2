-- Steps with formats of fields: a form is turned away where it has a value outside the format of its field.
use Rattle.std.specs.Prelude.{◌≡◌, ◌⊎◌, ◌==◌, if◌then◌else◌, ℕ, List, [], ◌∷◌, map, chars, Option, Some, None}
use Rattle.std.specs.List.{All}
use Rattle.bw_format.specs.declared.format.Format.{Format}
use Rattle.bw_format.specs.Formats.{Accepts}
use Rattle.bw_http.specs.declared.replies.Reply.{Reply}
use Rattle.bw_http.specs.declared.replies.Reply.TheVariants as replies
use Rattle.bw_http.specs.declared.request.Method.{Method}
use Rattle.bw_http.specs.declared.request.Method.TheVariants.{Post}
use Rattle.bw_http.specs.declared.request.Path.{Path}
use Rattle.bw_http.specs.declared.request.Path.TheVariants as paths
use Rattle.bw_http.specs.declared.request.Request.{Request}
use Rattle.bw_lang.specs.declared.service.Service.{Service}
use Rattle.bw_lang.specs.declared.stmt.Receive.{Receive}
use Rattle.bw_lang.specs.Service.Submissions.{values_of}
use Rattle.bw_meaning.specs.States.{Form, Outcome, Shown}
use Rattle.bw_model.specs.Received.{receives_of, number_of_field, first_refusal}
use Rattle.bw_model.specs.Sessions.{Talk, Live, World, now, current}
use Rattle.bw_model.specs.Steps.{Step, refuses, step, taken_out}

-- ---- forms

-- each value of the field is in its format
abbrev pub IsInside : List Format → Form → List ℕ → Type 0
IsInside formats form field = All (λ value. Accepts formats field (chars value)) (values_of field form)

-- the first of these fields that has a value outside its format, if one has
abbrev pub FirstOutside : List Format → Form → List (List ℕ) → Option (List ℕ) → Type 0
FirstOutside formats form [] first = first ≡ None
FirstOutside formats form (field ∷ fields) first =
    (IsInside formats form field × FirstOutside formats form fields first) ⊎ ((IsInside formats form field → ⊥) × (first ≡ Some field))

-- ---- requests

-- the fields that receives name
abbrev pub fields_of : List Receive → List (List ℕ)
fields_of receives = map (λ r. r.field) receives

-- the fields of receives, unless a form was refused
abbrev pub unless_refused : Option Reply → List Receive → List (List ℕ)
unless_refused None receives = fields_of receives
unless_refused (Some reply) receives = []

-- the fields that a session's next turn stores, where it waits and takes the form
abbrev pub stored_at : Service → Talk → Form → Outcome → List (List ℕ)
stored_at service talk form (Shown at locals rests shown shared units) =
    let receives = receives_of service talk.session at in unless_refused (first_refusal service receives locals form) receives
stored_at service talk form o = []

-- where this is its current turn
abbrev pub stored_by : Service → ℕ → ℕ → Form → Option (Live × List Live) → List (List ℕ)
stored_by service first turn form None = []
stored_by service first turn form (Some found) =
    if turn == current first found.0.talk then stored_at service found.0.talk form (now service found.0.talk) else []

abbrev pub stored_on : Service → World → Method → Form → Path → List (List ℕ)
stored_on service w Post form (paths.Turn number key turn) = stored_by service w.first turn form (taken_out number key w.live)
stored_on service w method form path = []

-- the fields whose values a request would store: those that a turn receives from a form that it takes
abbrev pub stored : Service → World → Request → List (List ℕ)
stored service w request = stored_on service w request.method request.form request.path

-- ---- steps

-- the reply to a form with a value outside the format of the field of this number
abbrev pub outside_reply : ℕ → Reply
outside_reply field = replies.Format field

-- the form is turned away by this field and nothing changes, or there is none and the step is taken
abbrev pub guarded_by : Service → World → Step → Option (List ℕ) → Step
guarded_by service w taken None = taken
guarded_by service w taken (Some field) = refuses w (outside_reply (number_of_field service field))

-- what a request comes to with these formats
pub record IsGuarded (formats : List Format) (service : Service) (w : World) (request : Request) (key : ℕ) (s : Step) : Type 0 where
  pub first : Option (List ℕ)
  pub is_first : FirstOutside formats request.form (stored service w request) first
  pub is_step : s ≡ guarded_by service w (step service w request key) first
