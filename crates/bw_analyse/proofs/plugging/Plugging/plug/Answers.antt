use Rattle.std.proofs.Common.{[], sym, ap, ◌∙◌, subst}
use Rattle.std.proofs.lemmas.Result.{IfOk-weaker}
use Rattle.bw_solve.specs.Sets.{IsSet, merge}
use Rattle.bw_solve.specs.Lawful.SetLaws.{merge_set}
use Rattle.bw_sum.specs.Edges.{edge_cmp}
use Rattle.bw_sum.specs.Lawful.SummaryLaws.{edge_cmp_total}
use Rattle.bw_analyse.specs.Abstracts.{plugged_by}
use Rattle.bw_analyse.specs.Apart.{edges_of, with_edges}
use Rattle.bw_analyse.proofs.PlugLaws.{bare_apart, plugged_apart}
use Rattle.bw_analyse.proofs.plugging.Plugging.plug.Goals as goal

pub settled-requires : goal.settled-requires
settled-requires c =
    let sets = c.self.invariant.1 in (
      ap edges_of c.parted-bare.ensures.bare ∙ bare_apart c.in-Ok.plugged,
      (
        sets.0,
        subst (IsSet edge_cmp) (sym c.in-Ok-joined.ensures) (merge_set edge_cmp_total c.self.inside.waiting c.parted-bare.result.1 sets.1 c.parted-bare.ensures.set),
      ),
    )

pub returns : goal.returns
returns c =
    let self = c.self.inside in
    let a = c.args.value.now in
    let new = c.parted-bare.result.1 in
    let plugged = c.in-Ok.ensures in
    IfOk-weaker c.settled.result _ _ (λ f h.
    h
    ∙ ap (λ b. with_edges b (merge edge_cmp self.edges c.in-Ok-joined.waiting)) (c.parted-bare.ensures.bare ∙ ap (λ p. with_edges p []) plugged)
    ∙ ap (λ w. with_edges (with_edges (plugged_by self.bare c.args.gap a) []) (merge edge_cmp self.edges w)) c.in-Ok-joined.ensures
    ∙ plugged_apart self.bare c.args.gap a self.edges self.waiting new c.self.invariant c.parted-bare.ensures.set
    (c.parted-bare.ensures.edges ∙ ap edges_of plugged) ∙ ap (λ b. plugged_by b c.args.gap a) c.self.view_is) c.settled.ensures
