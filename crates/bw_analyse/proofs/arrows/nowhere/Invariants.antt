use Rattle.std.proofs.Common.{◌≡◌, ℕ, [], slice_index_or, vec_len}
use Rattle.bw_analyse.proofs.arrows.nowhere.Given as goal

abbrev pub invariant-loop-i : goal.invariant-loop-i
invariant-loop-i l = record {
  len : vec_len l.all ≡ l.i;
  each : (q : ℕ) → slice_index_or l.all.items q [] ≡ [];
}
