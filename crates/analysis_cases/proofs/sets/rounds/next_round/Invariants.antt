use Rattle.std.proofs.Common.{◌≡◌, ℕ, ◌<◌, vec_len}
use Rattle.bw_solve.specs.System.{family}
use Rattle.analysis_cases.proofs.sets.rounds.next_round.Given as goal

abbrev pub invariant-loop-cell : goal.invariant-loop-cell
invariant-loop-cell g l = record {
  len : vec_len l.next ≡ l.cell;
  each : (k : ℕ) → k < l.cell → family (g.S.System.empty l.system) l.next.items k ≡ g.S.System.transfer l.system k
      (family (g.S.System.empty l.system) l.values);
}
