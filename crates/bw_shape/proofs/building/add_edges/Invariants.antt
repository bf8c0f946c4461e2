use Rattle.std.proofs.Common.{take}
use Rattle.bw_shape.specs.Nodes.Parts.{GrowsNodes, link_part}
use Rattle.bw_shape.proofs.building.add_edges.Given as goal

abbrev pub invariant-loop-edge : goal.invariant-loop-edge
invariant-loop-edge l = GrowsNodes l.initial.nodes.items l.nodes.items (link_part (take l.edge-index l.edges))
