use Rattle.std.proofs.Common.{◌≡◌, ◌++◌, drop}
use Rattle.bw_sum.specs.Labels.{labels_at}
use Rattle.bw_sum.proofs.labels.Labels.at_tracks.Given as goal

abbrev pub invariant-loop-track : goal.invariant-loop-track
invariant-loop-track l = l.list.items ++ labels_at (drop l.track-index l.tracks) l.gap l.strings ≡ labels_at l.tracks l.gap l.strings
