-- Values that sessions stored are in the formats of their fields.
use Rattle.std.specs.Prelude.{◌≡◌, ℕ, List, ◌∷◌, ◌++◌}
use Rattle.std.specs.List.{All, AllByRecursion}
use Rattle.bw_format.specs.declared.format.Format.{Format}
use Rattle.bw_lang.specs.declared.service.Service.{Service}
use Rattle.bw_meaning.specs.States.{Form, Input, Rests, Shown}
use Rattle.bw_meaning.specs.Values.{Document, Values}
use Rattle.bw_model.specs.Received.{receives_of}
use Rattle.bw_model.specs.Guards.{IsInside, fields_of}
use Rattle.bw_model.specs.Sessions.{Origin, Talk, Live, World, result}

-- A form answered a show at which these earlier inputs had led a session, and each value of each field that the show
-- receives is in the field's format.
pub record IsTaken (formats : List Format) (service : Service) (session : ℕ) (origin : Origin) (earlier : List Input) (form : Form) : Type 0 where
  pub at : ℕ
  pub locals : Values
  pub rests : Rests
  pub shown : Document
  pub shared : Values
  pub units : ℕ
  pub waits : result service session origin earlier ≡ Shown at locals rests shown shared units
  pub inside : All (IsInside formats form) (fields_of (receives_of service session at))

-- so did each input of a session
abbrev pub IsWithin : List Format → Service → Talk → Type 0
IsWithin formats service talk =
    (earlier : List Input) (i : Input) (later : List Input) → talk.inputs ≡ earlier ++ i ∷ later →
    IsTaken formats service talk.session talk.origin earlier i.form

-- of each live session
abbrev pub AreWithin : List Format → Service → World → Type 0
AreWithin formats service w = AllByRecursion (λ (l : Live). IsWithin formats service l.talk) w.live
