-- What is loaded for an accepted service is sound.
use Rattle.std.proofs.Common.{◌≡◌, ℕ, List, None, Result, Ok, Err, sym, subst}
use Rattle.std.specs.Prelude.{IfOk, OnOk}
use Rattle.std.proofs.Math.Logic.{∥∥₁_map}
use Rattle.bw_analyse.specs.declared.facts.Facts.{Facts}
use Rattle.bw_check.specs.Accepts.{IsAccepted}
use Rattle.bw_load.specs.declared.loading.LoadFault.{LoadFault}
use Rattle.bw_load.specs.Loaded.{LoadedIsSound, world_of}
use Rattle.bw_load.specs.Loads.{uncovered}
use Rattle.bw_saved.specs.declared.saved.Saved.{Saved}
use Rattle.bw_saved.specs.Sessions.Demands.{IsSaved}
use Rattle.bw_schema.specs.declared.schema.Schema.{Schema}
use Rattle.bw_sound.specs.Worlds.{IsSoundWorld}
use Rattle.bw_types.specs.declared.typed.Typed.{Typed}

pub accepted_is_sound : LoadedIsSound → (t : Typed) (schema : Schema) (facts : Facts) (s : Saved) → ∥ IsAccepted t.service schema facts ∥₁ →
    IsSaved t.service s → uncovered t.service facts s ≡ None → ∥ IsSoundWorld t.service (world_of t.service s) ∥₁
accepted_is_sound law t schema facts s accepted saved none = ∥∥₁_map accepted (λ a. law t facts s a.facts_are saved none)

-- what holds of what was read holds of the answer
pub of_answer : (P : Saved → Type 0) (r : Result Saved LoadFault) (saved : Saved) → IfOk r (λ s. s ≡ saved) → P saved → IfOk r P
of_answer P (Ok s) saved e h = subst P (sym e) h
of_answer P (Err f) saved e h = tt

pub of_good_answer : (P : Saved → Type 0) (Q : Type 0) (r : Result Saved LoadFault) (saved : Saved) → IfOk r (λ s. s ≡ saved) → OnOk r Q → (Q → P saved) →
    IfOk r P
of_good_answer P Q (Ok s) saved e q h = subst P (sym e) (h q)
of_good_answer P Q (Err f) saved e q h = tt
