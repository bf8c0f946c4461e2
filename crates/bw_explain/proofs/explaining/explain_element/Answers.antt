use Rattle.std.proofs.Common.{subst, sym}
use Rattle.std.proofs.lemmas.Result.{IfOk-weaker}
use Rattle.bw_shape.specs.Nodes.Templates.{template_at}
use Rattle.bw_explain.specs.declared.explained.Explained.{Explained}
use Rattle.bw_explain.specs.Atoms.{atoms_of}
use Rattle.bw_explain.specs.Explained.{IsAnswer, FindsOne, spot_of}
use Rattle.bw_explain.specs.Ways.{graph}
use Rattle.bw_explain.proofs.Best.{best_explained}
use Rattle.bw_explain.proofs.explaining.explain_element.Goals as goal

pub returns : goal.returns
returns c =
    let f = c.in_ok-found.found in
    let r = c.args.rule.now in
    let W = FindsOne (template_at c.args.page.now.templates.now) (graph c.args.page.now.nodes.now) (spot_of c.args.spot.now) r
    (atoms_of c.args.number r) c.args.root in
    IfOk-weaker c.answer.result _ _ (λ (e : Explained) h. subst (λ (x : Explained). IsAnswer W x) (sym h)
    (best_explained W f.size f.doc c.in_ok-found.ensures)) c.answer.ensures
