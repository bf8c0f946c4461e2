use Rattle.std.proofs.Common.{[], sym, ap, ◌∙◌, subst}
use Rattle.bw_solve.specs.Sets.{IsSet, merge}
use Rattle.bw_sum.specs.Edges.{edge_cmp}
use Rattle.bw_analyse.specs.Apart.{edges_of, with_edges}
use Rattle.bw_analyse.proofs.PlugLaws.{apart, bare_apart}
use Rattle.bw_analyse.proofs.plugging.Plugging.of.Goals as goal

pub invariant_of-result : goal.invariant_of-result
invariant_of-result c = (
  ap edges_of c.parted-bare.ensures.bare ∙ bare_apart c.args.value,
  (c.parted-bare.ensures.set, subst (IsSet edge_cmp) (sym c.new.ensures) tt),
)

pub returns : goal.returns
returns c =
    let bare = c.parted-bare.result.0 in
    let edges = c.parted-bare.result.1 in
    ap (λ b. with_edges b (merge edge_cmp edges c.new.result)) c.parted-bare.ensures.bare
    ∙ ap (λ e. with_edges (with_edges c.args.value []) (merge edge_cmp e c.new.result)) c.parted-bare.ensures.edges
    ∙ ap (λ w. with_edges (with_edges c.args.value []) (merge edge_cmp (edges_of c.args.value) w)) c.new.ensures ∙ apart c.args.value
