use Rattle.std.proofs.Common.{subst, sym}
use Rattle.bw_world.specs.Good.{IsSound}
use Rattle.bw_world.specs.Seen.{Seen}
use Rattle.bw_world.proofs.world.World.dismantle.Goals as goal

pub returns-clause-sound : goal.returns-clause-sound
returns-clause-sound c = subst (λ (w : Seen). ∥ IsSound w ∥₁) (sym c.in_ok-parts.ensures.same) c.self.invariant
