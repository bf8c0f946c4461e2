use Rattle.std.proofs.Common.{◌<◌, ◌+◌, length, replicate, false, ap, ◌∙◌, arith}
use Rattle.std.proofs.lemmas.List.{get_or_default}
use Rattle.bw_shape.specs.Rows.Rows.{at}
use Rattle.bw_shape.specs.Nodes.Nodes.{no_node, node_at}
use Rattle.bw_shape.specs.Tests.{gives}
use Rattle.bw_shape.proofs.Rows.Changes.{sets_fresh}
use Rattle.bw_shape.proofs.tops.TopsRule.row.Goals as goal

pub returns-clause-each : goal.returns-clause-each
returns-clause-each c k l =
    let self = c.args.self.now in
    let node = c.index-self-n.result in
    let known = at c.args.known.now in
    let m : c.args.n < length self.templates.now = omega (arith, c.requires.row) in
    let n : c.args.n < length self.nodes.now = omega (arith, m, self.both) in
    sets_fresh (length self.tags.now + 1) _ _ _ (c.in_ok-row.ensures ∙ ap (λ w. replicate (w + 1) false) c.len.ensures.len) c.items_give.ensures k l
    ∙ ap (λ x. gives self.tags.now x (λ m. known m k) k c.at.result.now) (get_or_default self.nodes.now c.args.n node no_node n)
    ∙ ap (λ x. gives self.tags.now (node_at self.nodes.now c.args.n) (λ m. known m k) k x) c.at.ensures
