-- What sessions are answered with formats of fields, by a test of which values are in them.
use Rattle.std.specs.Prelude.{ℕ, Bool, not, ◌==◌, if◌then◌else◌, List, [], find, Option, Some, None}
use Rattle.std.specs.List.{list_all}
use Rattle.bw_http.specs.declared.request.Method.{Method}
use Rattle.bw_http.specs.declared.request.Method.TheVariants.{Post}
use Rattle.bw_http.specs.declared.request.Request.{Request}
use Rattle.bw_lang.specs.declared.service.Service.{Service}
use Rattle.bw_lang.specs.Service.Submissions.{values_of}
use Rattle.bw_meaning.specs.States.{Form}
use Rattle.bw_model.specs.Answers.{Answered, Said, refuses, answered}
use Rattle.bw_model.specs.Guards.{stored_at, outside_reply}
use Rattle.bw_model.specs.Received.{number_of_field}
use Rattle.bw_model.specs.Sessions.{Talk, World, now, current}
use Rattle.bw_model.specs.Steps.{Step, step_by}

-- the first of these fields that has a value outside its format, if one has
abbrev pub first_outside : (List ℕ → List ℕ → Bool) → Form → List (List ℕ) → Option (List ℕ)
first_outside inside form fields = find (λ field. not (list_all (inside field) (values_of field form))) fields

-- the fields that are stored, where this is said by a form
abbrev pub stored_by_method : Service → Talk → Form → Method → List (List ℕ)
stored_by_method service talk form Post = stored_at service talk form (now service talk)
stored_by_method service talk form method = []

abbrev pub stored_said : Service → ℕ → Talk → Said → List (List ℕ)
stored_said service first talk said = if said.turn == current first talk then stored_by_method service talk said.form said.method else []

-- the form is turned away by this field, or there is none
abbrev pub unless_outside : Service → Answered → Option (List ℕ) → Answered
unless_outside service a None = a
unless_outside service a (Some field) = refuses (outside_reply (number_of_field service field))

abbrev pub guarded_answer : (List ℕ → List ℕ → Bool) → Service → ℕ → Talk → Said → Answered
guarded_answer inside service first talk said =
    unless_outside service (answered service first talk said) (first_outside inside said.form (stored_said service first talk said))

-- what a request comes to
abbrev pub guarded_step : (List ℕ → List ℕ → Bool) → Service → World → Request → ℕ → Step
guarded_step inside service = step_by (guarded_answer inside service) service
