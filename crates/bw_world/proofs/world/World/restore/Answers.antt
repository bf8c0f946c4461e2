use Rattle.std.proofs.Common.{subst, sym}
use Rattle.bw_world.specs.Good.{IsSound}
use Rattle.bw_world.specs.Seen.{Seen}
use Rattle.bw_world.specs.Restored.{loaded_world}
use Rattle.bw_world.specs.Stands.{StandsFor}
use Rattle.bw_world.proofs.Restored.{parts_stand}
use Rattle.bw_world.proofs.world.World.restore.Goals as goal

pub invariant_of-result : goal.invariant_of-result
invariant_of-result c = subst (λ (w : Seen). ∥ IsSound w ∥₁) (sym c.in_ok-state.ensures) c.requires.sound

pub returns-clause-stands : goal.returns-clause-stands
returns-clause-stands c =
    subst (λ (w : Seen). StandsFor w (loaded_world c.args.parts)) (sym c.in_ok-state.ensures) (parts_stand c.args.parts)
