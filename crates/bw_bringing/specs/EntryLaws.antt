-- Laws of journals and worlds.
use Rattle.std.specs.Prelude.{◌≡◌, List, ◌++◌}
use Rattle.bw_check.specs.Accepts.{Accepts}
use Rattle.bw_format.specs.declared.format.Format.{Format}
use Rattle.bw_journal.specs.Layout.{Entry}
use Rattle.bw_lang.specs.declared.service.Service.{Service}
use Rattle.bw_model.specs.Reached.{Reached}
use Rattle.bw_model.specs.Sessions.{World}
use Rattle.bw_model.specs.Within.{AreWithin}
use Rattle.bw_schema.specs.declared.schema.Schema.{Schema}
use Rattle.bw_sound.specs.Worlds.{IsSoundWorld}
use Rattle.bw_bringing.specs.Bringing.{Brings}

-- the same entries bring about one world
abbrev pub BringsOnce : Type 0
BringsOnce =
    (formats : List Format) (service : Service) (world to then : World) (entries : List Entry) → Brings formats service world entries to
    → Brings formats service world entries then → to ≡ then

-- the world between some entries and others
pub record Between (formats : List Format) (service : Service) (world to : World) (first second : List Entry) : Type 0 where
  pub mid : World
  pub before : Brings formats service world first mid
  pub behind : Brings formats service mid second to

-- what some entries and then others bring about goes by the world between
abbrev pub BringsByParts : Type 0
BringsByParts =
    (formats : List Format) (service : Service) (world to : World) (first second : List Entry) → Brings formats service world (first ++ second) to
    → Between formats service world to first second

-- and where there is such a world, the entries together bring it about
abbrev pub BringsInParts : Type 0
BringsInParts =
    (formats : List Format) (service : Service) (world to : World) (first second : List Entry) → Between formats service world to first second
    → Brings formats service world (first ++ second) to

-- entries reach no other worlds than requests do
abbrev pub BringsReach : Type 0
BringsReach =
    (formats : List Format) (service : Service) (world to : World) (entries : List Entry) → Brings formats service world entries to → Reached service world to

-- what sessions stored stays within the formats
abbrev pub BringsKeepWithin : Type 0
BringsKeepWithin =
    (formats : List Format) (service : Service) (world to : World) (entries : List Entry) → Brings formats service world entries to
    → AreWithin formats service world → AreWithin formats service to

-- a sound world of a service that is accepted stays one
abbrev pub BringsKeepSound : Type 0
BringsKeepSound =
    (formats : List Format) (service : Service) (schema : Schema) (world to : World) (entries : List Entry) → Accepts service schema
    → Brings formats service world entries to → IsSoundWorld service world → IsSoundWorld service to
