-- What is saved, and why not.
use Rattle.std.specs.Prelude.{◌≡◌, ◌<◌, ◌≤◌, ◌-◌, ◌^◌, min, ℕ, true, List, ◌++◌, length}
use Rattle.std.specs.Int.{w16, w32, w64, to_be_bytes}
use Rattle.std.specs.List.{All}
use Rattle.bw_flow.specs.Steps.{Step}
use Rattle.bw_lang.specs.declared.service.Service.{Service}
use Rattle.bw_model.specs.declared.limits.TheConstants.{MAX_LIVE}
use Rattle.bw_run.specs.Walks.{number_at}
use Rattle.bw_save.specs.Filled.{is_all_filled}
use Rattle.bw_save.specs.declared.saving.SaveFault.{SaveFault}
use Rattle.bw_save.specs.declared.saving.SaveFault.TheVariants.{TooLong, Memory}
use Rattle.bw_saved.specs.declared.limits.TheConstants.{MAX_SAVED_WEIGHT}
use Rattle.bw_saved.specs.declared.saved.Record.{Record}
use Rattle.bw_saved.specs.declared.saved.Saved.{Saved}
use Rattle.bw_saved.specs.Sessions.Demands.{IsSaved}
use Rattle.bw_types.specs.declared.typed.Typed.{Typed}

-- which session of the service each is fits two bytes
abbrev pub FitSessions : List Record → Type 0
FitSessions records = All (λ r. r.session < 2 ^ 16) records

-- the number, the key, the session, the turn and the show
abbrev pub front_bytes : List Step → Record → List ℕ
front_bytes flow r =
    to_be_bytes w32 r.number ++ (to_be_bytes w64 r.key ++ (to_be_bytes w16 r.session ++ (to_be_bytes w32 r.turn
    ++ to_be_bytes w32 (number_at flow r.frame.point))))

-- what `save` asks of what it saves
pub record MayBeWritten (service : Service) (s : Saved) : Type 0 where
  pub few : length s.records ≤ MAX_LIVE
  pub sessions : FitSessions s.records
  pub filled : is_all_filled service s ≡ true

-- what may be saved may be written
abbrev pub SavedMayBeWritten : Type 0
SavedMayBeWritten = (t : Typed) (s : Saved) → IsSaved t.service s → MayBeWritten t.service s

-- a weight, as far as 64 bits go
abbrev pub told : ℕ → ℕ
told weight = min weight (2 ^ 64 - 1)

-- the weight is over the limit, or there was no memory
abbrev pub IsSaveFault : ℕ → SaveFault → Type 0
IsSaveFault weight (TooLong n) = (n ≡ told weight) × (MAX_SAVED_WEIGHT < weight)
IsSaveFault weight Memory = Unit {0}
