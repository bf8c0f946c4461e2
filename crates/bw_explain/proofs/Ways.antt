-- The least of some sizes.
use Rattle.std.proofs.Common.{ℕ, ◌≤◌, List, [], ◌∷◌, arith}
use Rattle.bw_explain.specs.declared.sizes.TheConstants.{NONE}
use Rattle.bw_explain.specs.Sizes.{least_of}

pub least_of-most : (known : ℕ → ℕ) (ms : List ℕ) → least_of known ms ≤ NONE
least_of-most known [] = omega arith
least_of-most known (m ∷ ms) = let h = least_of-most known ms in omega (arith, h)

pub ruleset way_steps = (least_of-most)
