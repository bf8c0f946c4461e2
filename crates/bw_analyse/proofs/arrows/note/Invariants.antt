use Rattle.std.proofs.Common.{◌≡◌, ◌<◌, ◌++◌, ◌==◌, ℕ, [], drop, true, slice_index_or, vec_len}
use Rattle.bw_analyse.specs.Rounds.{arrows_from}
use Rattle.bw_analyse.proofs.arrows.note.Given as goal

abbrev pub invariant-loop-i : goal.invariant-loop-i
invariant-loop-i l = record {
  len : vec_len l.all ≡ vec_len l.initial.all;
  each : (q : ℕ) → q < vec_len l.initial.all → slice_index_or l.all.items q [] ++ arrows_from q l.place (l.i == 0) (drop l.i l.next)
      ≡ slice_index_or l.initial.all.items q [] ++ arrows_from q l.place true l.next;
}
