use Rattle.std.proofs.Common.{◌≡◌, [], drop}
use Rattle.bw_sum.specs.Edges.{edges_at}
use Rattle.bw_sum.proofs.parts.new_edges.Given as goal

abbrev pub invariant-loop-track : goal.invariant-loop-track
invariant-loop-track l = edges_at l.all (drop l.track-index l.tracks) l.gap l.roots ≡ edges_at [] l.tracks l.gap l.roots
