use Rattle.std.proofs.Common.{subst, ◌∙◌}
use Rattle.std.proofs.lemmas.Result.{IfOk-weaker}
use Rattle.bw_shape.specs.Nodes.Templates.{template_at}
use Rattle.bw_explain.specs.Explained.{FindsOne, IsBest, spot_of}
use Rattle.bw_explain.specs.Ways.{graph}
use Rattle.bw_explain.proofs.explaining.find_by.Goals as goal

pub returns : goal.returns
returns c =
    let p = c.args.ground.now.page.now in
    IfOk-weaker c.find_all-found.result _ _ (λ f h. subst (λ l. IsBest (FindsOne (template_at p.templates.now) (graph p.nodes.now) (spot_of c.args.spot.now)
    c.args.rule.now l c.args.root) f.size f.doc) (c.as_slice.ensures.value ∙ c.in_ok-atoms.ensures) h) c.find_all-found.ensures
