use Rattle.bw_shape.proofs.Nodes.Growing.{edge_more}
use Rattle.bw_shape.proofs.Nodes.Ascending.{edge_after}
use Rattle.bw_shape.proofs.building.add_edges.Goals as goal

pub add_edge-requires-clause-order : goal.add_edge-requires-clause-order
add_edge-requires-clause-order c =
    edge_after c.args.edges.now c.loop-edge.edge-index c.edge-item.result c.args.nodes.now.items c.loop-edge.nodes.items c.edge-item.is
    c.loop-edge-test.true c.requires.set c.requires.fresh c.requires.rows c.loop-edge.invariant

pub loop-edge-preserved : goal.loop-edge-preserved
loop-edge-preserved c =
    edge_more c.args.edges.now c.loop-edge.edge-index c.edge-item.result c.edge-item.result c.args.nodes.now.items c.loop-edge.nodes.items
    c.add_edge.new.nodes.items c.edge-item.is c.loop-edge-test.true c.loop-edge.invariant c.in_ok-add_edge.ensures
