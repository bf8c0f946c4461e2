use Rattle.std.proofs.Common.{◌==◌, ◌&&◌, ◌≤◌, take, length-take, leb, ltb, rules, arith, sym, subst, ap, ◌∙◌}
use Rattle.std.specs.List.{list_any}
use Rattle.std.proofs.lemmas.List.Sorted.{IsPartitionPoint-from_clause, IsPartitionedBy-leb, IsPartitionedBy-ltb, IsNonDecreasingBy-take}
use Rattle.bw_shape.specs.Nodes.Nodes.{Ascends}
use Rattle.bw_shape.proofs.Nodes.Ascending.{led_between}
use Rattle.bw_shape.proofs.node.Node.links_at.Goals as goal

pub returns : goal.returns
returns c known =
    let links = c.as_slice-links.result.now in
    let start = c.partition_point-start.result in
    let end = c.partition_point-end.result in
    let ordered : Ascends links = subst Ascends (sym c.as_slice-links.ensures.value) c.self.invariant in
    let ends = IsPartitionPoint-from_clause (λ l. leb l.0 c.args.gap) _ _ c.partition_point-end.ensures.partitioned
    (IsPartitionedBy-leb (λ l. l.0) links c.args.gap ordered) (λ a r f k. search rules) in
    let starts = IsPartitionPoint-from_clause (λ l. ltb l.0 c.args.gap) _ _ c.partition_point-start.ensures.partitioned
    (IsPartitionedBy-ltb (λ l. l.0) (take end links) c.args.gap (IsNonDecreasingBy-take (λ l. l.0) end links ordered)) (λ a r f k. search rules) in
    let within : start ≤ end = omega (arith, c.partition_point-start.ensures.bound, length-take end links) in
    led_between known c.args.gap start end links c.partition_point-end.ensures.bound within starts ends
    ∙ ap (list_any (λ l. (l.0 == c.args.gap) && known l.1)) (c.as_slice-links.ensures.value ∙ ap (λ n. n.links) c.self.view_is)
