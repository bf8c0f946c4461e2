-- Files of worlds that go on.
use Rattle.std.specs.Prelude.{◌≡◌, ◌≢◌, ◌<◌, ◌≤◌, ◌⊎◌, ℕ, List, length, Ok, Err}
use Rattle.bw_lang.specs.declared.service.Service.{Service}
use Rattle.bw_load.specs.declared.loading.LoadFault.{LoadFault}
use Rattle.bw_load.specs.declared.loading.LoadFault.TheVariants.{Memory}
use Rattle.bw_save.specs.Freezes.{MayBeFrozen}
use Rattle.bw_save.specs.Thawed.{Gives}
use Rattle.bw_flow.specs.Layout.{flow_of}
use Rattle.bw_saved.specs.Sessions.Layout.{file}
use Rattle.bw_saved.specs.declared.limits.TheConstants.{MAX_SAVED_BYTES}
use Rattle.bw_saved.specs.declared.saved.Saved.{Saved}

-- something is loaded from these bytes
pub record IsAgain (service : Service) (text bytes : List ℕ) : Type 0 where
  pub short : length bytes ≤ MAX_SAVED_BYTES
  pub again : Saved
  pub gives : Gives service text bytes (Ok again)

-- nothing is: they are too many, or are refused
abbrev pub IsNotAgain : Service → (text bytes : List ℕ) → Type 0
IsNotAgain service text bytes =
    (MAX_SAVED_BYTES < length bytes) ⊎ ((fault : LoadFault) × (fault ≢ Memory) × Gives service text bytes (Err fault))

-- the bytes are the file of what is saved, and something is loaded from it
pub record IsFileAgain (service : Service) (text : List ℕ) (s : Saved) (bytes : List ℕ) : Type 0 where
  pub file_is : bytes ≡ file (flow_of service) text s
  pub fits : MayBeFrozen service s
  pub loads : IsAgain service text bytes

-- there is no such file
abbrev pub IsNoFile : Service → List ℕ → Saved → Type 0
IsNoFile service text s = (MayBeFrozen service s → ⊥) ⊎ IsNotAgain service text (file (flow_of service) text s)
