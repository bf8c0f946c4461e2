-- What is thawed from the file of a world.
use Rattle.std.specs.Prelude.{◌≡◌, ◌≤◌, ℕ, List, length, Result, Ok}
use Rattle.bw_analyse.specs.declared.facts.Facts.{Facts}
use Rattle.bw_analyse.specs.Facts.{AreFacts}
use Rattle.bw_save.specs.Frozen.{saved_of, loaded_of}
use Rattle.bw_lang.specs.declared.limits.TheConstants.{MAX_FILE_BYTES}
use Rattle.bw_lang.specs.declared.service.Service.{Service}
use Rattle.bw_load.specs.declared.loading.LoadFault.{LoadFault}
use Rattle.bw_load.specs.Loads.{loaded, IsLoaded}
use Rattle.bw_saved.specs.declared.saved.Saved.{Saved}
use Rattle.bw_saved.specs.declared.limits.TheConstants.{MAX_SAVED_WEIGHT}
use Rattle.bw_flow.specs.Layout.{flow_of}
use Rattle.bw_saved.specs.Sessions.Demands.{IsSaved}
use Rattle.bw_saved.specs.Sessions.Layout.{file}
use Rattle.bw_saved.specs.Sessions.Weights.{total_weight}
use Rattle.bw_sound.specs.Worlds.{IsSoundWorld}
use Rattle.bw_types.specs.declared.typed.Typed.{Typed}
use Rattle.bw_world.specs.Kept.{IsKept}
use Rattle.bw_world.specs.Seen.{Seen}

-- The bytes give this for a service of this text, by the facts of the service: these are one. Want of memory is free.
abbrev pub Gives : Service → List ℕ → List ℕ → Result Saved LoadFault → Type 0
Gives service text bytes answer = (facts : Facts) → AreFacts service facts → IsLoaded answer (loaded service facts text bytes)

-- what was loaded is sound, where the service has facts, as where the check accepted it: each page from there on is good
abbrev pub IsSoundLoaded : Seen → Type 0
IsSoundLoaded w = (facts : Facts) → AreFacts w.service facts → IsSoundWorld w.service (loaded_of w)

-- Where a world of the service may be saved, and what its file gives waits in another world of the service, both are the same: so they
-- stand for the same worlds of the meaning.
abbrev pub ThawedIsTheSame : Type 0
ThawedIsTheSame =
    (t : Typed) (facts : Facts) (text : List ℕ) (frozen thawed : Seen) → IsKept frozen → IsKept thawed → frozen.service ≡ t.service → thawed.service ≡ t.service
    → IsSaved t.service (saved_of frozen) → length text ≤ MAX_FILE_BYTES → total_weight (saved_of frozen) ≤ MAX_SAVED_WEIGHT
    → loaded t.service facts text (file (flow_of t.service) text (saved_of frozen)) ≡ Ok (saved_of thawed) → thawed ≡ frozen
