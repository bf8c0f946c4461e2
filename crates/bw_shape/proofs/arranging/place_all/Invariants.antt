use Rattle.std.proofs.Common.{◌≡◌, ℕ, ◌<◌, true, length, get_or}
use Rattle.bw_shape.specs.Rows.Rows.{flag}
use Rattle.bw_shape.specs.Reach.{Placed}
use Rattle.bw_shape.proofs.arranging.place_all.Given as goal

abbrev pub invariant-loop-n : goal.invariant-loop-n
invariant-loop-n l = Placed (length l.initial.placed) l.placed l.back.items × ((i : ℕ) → i < l.n-index → flag l.placed (get_or l.order i 0) ≡ true)
