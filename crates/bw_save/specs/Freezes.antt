-- Which worlds are frozen, and why not.
use Rattle.std.specs.Prelude.{◌≡◌, ◌<◌, ◌≤◌, true, false}
use Rattle.bw_save.specs.declared.freezing.FreezeFault.{FreezeFault}
use Rattle.bw_save.specs.declared.freezing.FreezeFault.TheVariants.{Unfilled, TooLong, Memory}
use Rattle.bw_lang.specs.declared.service.Service.{Service}
use Rattle.bw_save.specs.Filled.{is_all_filled}
use Rattle.bw_save.specs.Saves.{told}
use Rattle.bw_saved.specs.declared.limits.TheConstants.{MAX_SAVED_WEIGHT}
use Rattle.bw_saved.specs.declared.saved.Saved.{Saved}
use Rattle.bw_saved.specs.Sessions.Weights.{total_weight}

-- each plug filled a gap, and all weighs no more than may be saved
pub record MayBeFrozen (service : Service) (s : Saved) : Type 0 where
  pub filled : is_all_filled service s ≡ true
  pub light : total_weight s ≤ MAX_SAVED_WEIGHT

-- the first of both that fails, or there was no memory
abbrev pub IsFreezeFault : Service → Saved → FreezeFault → Type 0
IsFreezeFault service s Unfilled = is_all_filled service s ≡ false
IsFreezeFault service s (TooLong n) = (is_all_filled service s ≡ true) × (n ≡ told (total_weight s)) × (MAX_SAVED_WEIGHT < total_weight s)
IsFreezeFault service s Memory = Unit {0}
