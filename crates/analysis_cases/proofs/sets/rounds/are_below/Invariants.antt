use Rattle.std.proofs.Common.{◌≡◌, ℕ, ◌<◌, true}
use Rattle.bw_solve.specs.System.{family}
use Rattle.analysis_cases.proofs.sets.rounds.are_below.Given as goal

abbrev pub invariant-loop-cell : goal.invariant-loop-cell
invariant-loop-cell g l =
    (k : ℕ) → k < l.cell → g.S.Value.Lattice.below (family (g.S.System.empty l.system) l.a k) (family (g.S.System.empty l.system) l.b k) ≡ true
