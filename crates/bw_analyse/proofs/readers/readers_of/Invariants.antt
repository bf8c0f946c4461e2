use Rattle.std.proofs.Common.{◌≡◌, ◌<◌, ℕ, [], length, map, slice_index_or, vec_len}
use Rattle.std.specs.Prelude.{slice_get}
use Rattle.bw_flow.specs.View.{seen}
use Rattle.bw_analyse.specs.Readers.{readers_at}
use Rattle.bw_analyse.proofs.readers.readers_of.Given as goal

abbrev pub invariant-loop-point : goal.invariant-loop-point
invariant-loop-point l = record {
  len : vec_len l.all ≡ l.point-index;
  each : (cell : ℕ) → cell < l.point-index → slice_index_or l.all.items cell [] ≡ readers_at (length l.points) (slice_get (map seen l.points) cell);
}
