use Rattle.std.proofs.Common.{take}
use Rattle.bw_shape.specs.Nodes.Parts.{GrowsNodes, GrowsSaid, said_part, sayings_of}
use Rattle.bw_shape.proofs.building.add_labels.Given as goal

abbrev pub invariant-loop-label : goal.invariant-loop-label
invariant-loop-label l =
    GrowsNodes l.initial.nodes.items l.nodes.items (said_part l.literals (take l.label-index l.labels))
    × GrowsSaid l.initial.said.items l.said.items (λ n. sayings_of n (take l.label-index l.labels))
