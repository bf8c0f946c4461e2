use Rattle.std.proofs.Common.{◌≡◌, ℕ, ◌<◌, vec_len}
use Rattle.bw_solve.specs.System.{family}
use Rattle.analysis_cases.proofs.sets.rounds.least_values.Given as goal

abbrev pub invariant-loop-cell : goal.invariant-loop-cell
invariant-loop-cell g l =
    (vec_len l.values ≡ l.cell) × ((k : ℕ) → k < l.cell → family (g.S.System.empty l.system) l.values.items k ≡ g.S.System.empty l.system k)
