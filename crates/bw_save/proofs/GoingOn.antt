-- What is known of a world that goes on, and of its file.
use Rattle.std.proofs.Common.{◌≡◌, ◌∙◌, ℕ, Option, Result, Ok, Err, IfOk, Vec, Global, subst, sym}
use Rattle.bw_lang.specs.declared.text.Memory.{Memory}
use Rattle.bw_save.specs.declared.onward.Frozen.{Frozen}
use Rattle.bw_world.specs.Seen.{Seen}

-- it is the world that was frozen
pub world_carried : (r : Result Frozen Memory) (made was : Seen) → made ≡ was → IfOk r (λ f. f.world ≡ made) → IfOk r (λ f. f.world ≡ was)
world_carried (Ok f) made was same is = is ∙ same
world_carried (Err e) made was same is = tt

-- what holds of the file holds of it beside the world
pub file_carried : (r : Result Frozen Memory) (file : Option (Vec ℕ Global)) (P : Option (Vec ℕ Global) → Type 0) → IfOk r (λ f. f.file ≡ file) → P file
    → IfOk r (λ f. P f.file)
file_carried (Ok f) file P is p = subst P (sym is) p
file_carried (Err e) file P is p = tt
