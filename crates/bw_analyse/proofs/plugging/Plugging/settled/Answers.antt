use Rattle.std.proofs.Common.{sym, ap, ◌∙◌, subst}
use Rattle.bw_solve.specs.Sets.{IsSet, merge}
use Rattle.bw_solve.specs.Lawful.SetLaws.{merge_set}
use Rattle.bw_sum.specs.Edges.{edge_cmp}
use Rattle.bw_sum.specs.Lawful.SummaryLaws.{edge_cmp_total}
use Rattle.bw_analyse.specs.Apart.{with_edges}
use Rattle.bw_analyse.proofs.PlugLaws.{nothing_more}
use Rattle.bw_analyse.proofs.plugging.Plugging.settled.Goals as goal

pub invariant_of-result-2 : goal.invariant_of-result-2
invariant_of-result-2 c =
    let sets = c.requires.1 in (
      c.requires.0,
      (
        subst (IsSet edge_cmp) (sym c.in-Ok.ensures) (merge_set edge_cmp_total c.args.edges c.args.waiting sets.0 sets.1),
        subst (IsSet edge_cmp) (sym c.new.ensures) tt,
      ),
    )

pub returns : goal.returns
returns c =
    ap (with_edges c.args.bare) (ap (merge edge_cmp c.in-Ok.edges) c.new.ensures ∙ nothing_more c.in-Ok.edges ∙ c.in-Ok.ensures)
