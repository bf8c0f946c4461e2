use Rattle.std.proofs.Common.{take}
use Rattle.std.specs.List.{list_any}
use Rattle.bw_shape.specs.Rows.Rows.{at}
use Rattle.bw_shape.specs.Rows.Changes.{Sets}
use Rattle.bw_shape.proofs.node.Node.join_linked.Given as goal

abbrev pub invariant-loop-link : goal.invariant-loop-link
invariant-loop-link l = Sets l.initial.row l.row (λ c. list_any (λ x. at l.known x.1 c) (take l.link-index l.link-items))
