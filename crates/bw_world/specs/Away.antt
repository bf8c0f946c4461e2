-- Which form the code turns away.
use Rattle.std.specs.Prelude.{◌≡◌, ◌⊎◌, ◌==◌, if◌then◌else◌, ℕ, List, [], ◌∷◌, Option, Some, None}
use Rattle.std.specs.Option.{option_map}
use Rattle.bw_flow.specs.Steps.{Step}
use Rattle.bw_flow.specs.declared.point.Received.{Received}
use Rattle.bw_format.specs.declared.format.Format.{Format}
use Rattle.bw_model.specs.Guards as guards
use Rattle.bw_model.specs.Guards.{IsInside, stored, stored_by}
use Rattle.bw_http.specs.declared.request.Request.{Request}
use Rattle.bw_meaning.specs.States.{Form}
use Rattle.bw_model.specs.Received.{number_of_field}
use Rattle.bw_model.specs.Sessions.{World}
use Rattle.bw_model.specs.Steps.{taken_out}
use Rattle.bw_run.specs.declared.fields.FieldFault.{FieldFault}
use Rattle.bw_run.specs.Missing.{first_missing}
use Rattle.bw_run.specs.Turns.{receives_of}
use Rattle.bw_world.specs.declared.suspended.Suspended.{Suspended}
use Rattle.bw_world.specs.Seen.{Seen}
use Rattle.bw_world.specs.Stands.{StandsFor}

-- the number of the first of these fields that has a value outside its format, if one has
abbrev pub FirstOutside : List Format → Form → List Received → Option ℕ → Type 0
FirstOutside formats form [] o = o ≡ None
FirstOutside formats form (r ∷ rs) o =
    (IsInside formats form r.field × FirstOutside formats form rs o) ⊎ ((IsInside formats form r.field → ⊥) × (o ≡ Some r.id))

-- what is received, unless the form isn't taken
abbrev pub unless_missing : Option FieldFault → List Received → List Received
unless_missing None received = received
unless_missing (Some fault) received = []

-- what a session's turn of this number receives, where it takes the form
abbrev pub received_by : List Step → Suspended → ℕ → Form → List Received
received_by flow s turn form =
    if turn == s.turn then unless_missing (first_missing (receives_of flow s.frame) form) (receives_of flow s.frame) else []

-- for each model world that the world stands for: it is the number of the field by which the form is turned away
pub record IsFirst (formats : List Format) (form : Form) (number : List ℕ → ℕ) (fields : List (List ℕ)) (o : Option ℕ) : Type 0 where
  pub first : Option (List ℕ)
  pub is_first : guards.FirstOutside formats form fields first
  pub is : o ≡ option_map number first

abbrev pub IsAwayFrom : Seen → List Format → Form → ℕ → ℕ → ℕ → Option ℕ → Type 0
IsAwayFrom w formats form number key turn o =
    (m : World) → StandsFor w m
    → IsFirst formats form (number_of_field w.service) (stored_by w.service m.first turn form (taken_out number key m.live)) o

abbrev pub IsAway : Seen → List Format → Request → Option ℕ → Type 0
IsAway w formats request o =
    (m : World) → StandsFor w m → IsFirst formats request.form (number_of_field w.service) (stored w.service m request) o
