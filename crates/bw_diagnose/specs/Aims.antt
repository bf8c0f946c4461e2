-- What is known of a service's first test that fails before its fault is.
use Rattle.std.specs.Prelude.{◌≡◌, ℕ, List, [], Option, Some, None}
use Rattle.bw_blame.specs.declared.site.Blamed.{Blamed}
use Rattle.bw_lang.specs.declared.declaration.Draft.{Draft}
use Rattle.bw_near.specs.Near.{nearest}
use Rattle.bw_places.specs.Seeking.{declared_at}
use Rattle.bw_types.specs.declared.fault.TypeFault.{TypeFault}
use Rattle.bw_types.specs.declared.fault.TypeFault.TheVariants as typing
use Rattle.bw_diagnose.specs.Known.{lexemes_in}
use Rattle.bw_diagnose.specs.Meant.{stand_in, role_of}
use Rattle.bw_diagnose.specs.Places.{blamed_place}
use Rattle.bw_diagnose.specs.declared.aim.Aim.{Aim}

-- the names that may stand at what it is about
abbrev pub names_there : List ℕ → List Draft → Option Blamed → List (List ℕ)
names_there text ds None = []
names_there text ds (Some b) = stand_in (lexemes_in text) ds b (declared_at ds b.declaration 3)

-- it points there, and is about that, where these names may stand
pub record IsAim (text : List ℕ) (ds : List Draft) (blamed : Option Blamed) (aim : Aim) : Type 0 where
  pub place : aim.place ≡ blamed_place text ds blamed
  pub role : aim.role ≡ role_of text ds blamed
  pub names : aim.names.items ≡ names_there text ds blamed

-- the name that may be meant by an unknown one, where these may stand
abbrev pub meant_among : List (List ℕ) → TypeFault → Option (List ℕ)
meant_among names (typing.Unknown w) = nearest w names
meant_among names fault = None
