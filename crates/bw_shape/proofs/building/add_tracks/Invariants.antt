use Rattle.std.proofs.Common.{take}
use Rattle.bw_shape.specs.Nodes.Parts.{GrowsNodes, open_part}
use Rattle.bw_shape.proofs.building.add_tracks.Given as goal

abbrev pub invariant-loop-track : goal.invariant-loop-track
invariant-loop-track l = GrowsNodes l.initial.nodes.items l.nodes.items (open_part (take l.track-index l.tracks))
