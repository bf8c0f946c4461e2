-- What a world stands for: the world of the meaning in which what is saved of it was loaded.
use Rattle.std.proofs.Common.{ℕ, List, [], ◌∷◌, map, refl, subst, arith}
use Rattle.std.proofs.Math.Logic.{∥∥₁_map}
use Rattle.bw_check.specs.declared.checked.Checked.{Checked}
use Rattle.bw_save.specs.Frozen.{record_of, saved_of, parts_of}
use Rattle.bw_save.proofs.Again.{saved_again}
use Rattle.bw_lang.specs.declared.service.Service.{Service}
use Rattle.bw_load.specs.Loaded.{live_of, world_of}
use Rattle.bw_meaning.specs.States.{budget}
use Rattle.bw_saved.specs.declared.saved.Saved.{Saved}
use Rattle.bw_sound.specs.Worlds.{IsSoundWorld}
use Rattle.bw_world.specs.declared.suspended.Suspended.{Suspended}
use Rattle.bw_world.specs.Good.{IsSound}
use Rattle.bw_world.specs.Restored.{seen_of}
use Rattle.bw_world.specs.Seen.{Seen}
use Rattle.bw_world.specs.Stands.{AllStand, StandsFor}

all_stand : (service : Service) (first : ℕ) (live : List (ℕ × Suspended)) →
    AllStand service first live (map (live_of service) (map (λ (x : ℕ × Suspended). record_of x.1) live))
all_stand service first [] = tt
all_stand service first (x ∷ live) =
    (record { number = refl; key = refl; session = refl; turn = omega arith; waits = ([], budget, refl) }, all_stand service first live)

pub saved_stands : (w : Seen) → StandsFor w (world_of w.service (saved_of w))
saved_stands w = record { shared = refl; next = refl; first = refl; live = all_stand w.service w.first w.live }

pub sound : (checked : Checked) (s : Saved) → ∥ IsSoundWorld checked.typed.service (world_of checked.typed.service s) ∥₁ →
    ∥ IsSound (seen_of (parts_of checked s)) ∥₁
sound checked s h =
    let service = checked.typed.service in
    ∥∥₁_map h (λ is. record {
      model = world_of service s;
      stands = subst (λ (v : Saved). StandsFor (seen_of (parts_of checked s)) (world_of service v)) (saved_again checked s)
          (saved_stands (seen_of (parts_of checked s)));
      sound = is;
    })
