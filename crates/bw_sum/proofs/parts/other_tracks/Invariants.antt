use Rattle.std.proofs.Common.{◌≡◌, ◌==◌, not, [], drop}
use Rattle.bw_solve.specs.Sets.{sifted}
use Rattle.bw_sum.specs.Labels.{pair_cmp}
use Rattle.bw_sum.proofs.parts.other_tracks.Given as goal

abbrev pub invariant-loop-track : goal.invariant-loop-track
invariant-loop-track l = sifted pair_cmp (λ t. not (t.0 == l.gap)) l.all (drop l.track-index l.tracks) ≡ sifted pair_cmp (λ t. not (t.0 == l.gap)) [] l.tracks
