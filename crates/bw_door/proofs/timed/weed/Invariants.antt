use Rattle.std.proofs.Common.{◌≡◌, ℕ, ◌+◌, ◌-◌, ◌<◌, ◌≤◌, false}
use Rattle.std.specs.Prelude.{IfSome}
use Rattle.slab.specs.Slab.{get, slab_len}
use Rattle.bw_door.proofs.timed.weed.Given as goal

abbrev pub invariant-places : goal.invariant-places
invariant-places g l =
    ((place : ℕ) → place < l.place → IfSome (get l.slab place) (λ one. g.T.Timed.late l.limits l.now one ≡ false))
    × (slab_len l.slab + l.gone ≡ slab_len l.initial.slab) × (l.gone ≤ l.place) × (l.slab.capacity ≡ l.initial.slab.capacity)

abbrev pub decreases-places : goal.decreases-places
decreases-places g l = l.slab.capacity - l.place
