use Rattle.std.proofs.Common.{◌≤◌, sym, subst}
use Rattle.std.specs.List.{All}
use Rattle.bw_shape.proofs.Nodes.Ascending.{link_more}
use Rattle.bw_shape.proofs.node.Node.add_link.Goals as goal

pub invariant_of-self-2 : goal.invariant_of-self-2
invariant_of-self-2 c =
    rw c.in_ok-push.ensures.items (link_more c.self.inside.links.items c.args.gap c.args.to c.self.invariant
    (subst (λ n. All (λ l. l.0 ≤ c.args.gap) n.links) (sym c.self.view_is) c.requires))
