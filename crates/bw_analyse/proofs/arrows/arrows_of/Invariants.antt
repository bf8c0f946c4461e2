use Rattle.std.proofs.Common.{◌≡◌, ◌<◌, ◌++◌, ℕ, [], drop, length, map, slice_index_or, vec_len}
use Rattle.bw_flow.specs.View.{seen}
use Rattle.bw_analyse.specs.Rounds.{arrows_to}
use Rattle.bw_analyse.proofs.arrows.arrows_of.Given as goal

abbrev pub invariant-loop-place : goal.invariant-loop-place
invariant-loop-place l = record {
  len : vec_len l.all ≡ length l.points;
  each : (q : ℕ) → q < length l.points → slice_index_or l.all.items q [] ++ arrows_to q l.place (map seen (drop l.place l.points)) ≡ arrows_to q 0 (map
      seen l.points);
}
