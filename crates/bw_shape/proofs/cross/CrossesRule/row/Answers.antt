use Rattle.std.proofs.Common.{◌<◌, length, get_or, ap, ◌∙◌, arith}
use Rattle.std.proofs.lemmas.List.{get_or_default}
use Rattle.bw_shape.specs.Rows.Rows.{at}
use Rattle.bw_shape.specs.Nodes.Nodes.{no_node, node_at}
use Rattle.bw_shape.specs.Tests.{crosses}
use Rattle.bw_shape.proofs.Rows.Changes.{sets_fresh}
use Rattle.bw_shape.proofs.cross.CrossesRule.row.Goals as goal

pub returns-clause-each : goal.returns-clause-each
returns-clause-each c k l =
    let self = c.args.self.now in
    let node = c.index-self-n.result in
    let known = at c.args.known.now in
    let p = get_or self.pairs.now k (0, 0) in
    let m : c.args.n < length self.templates.now = omega (arith, c.requires.row) in
    let n : c.args.n < length self.nodes.now = omega (arith, m, self.both) in
    sets_fresh (length self.pairs.now) _ _ _ c.in_ok-row.ensures c.in_ok-items_cross.ensures k l
    ∙ ap (λ x. crosses self.tags.now x (at self.tops.now) (λ m. known m k) p c.at.result.now) (get_or_default self.nodes.now c.args.n node no_node n)
    ∙ ap (λ x. crosses self.tags.now (node_at self.nodes.now c.args.n) (at self.tops.now) (λ m. known m k) p x) c.at.ensures
