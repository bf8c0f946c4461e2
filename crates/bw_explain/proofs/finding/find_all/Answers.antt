use Rattle.std.proofs.Common.{[], ◌∷◌, ◌++◌, take, ap, sym, ◌∙◌, subst, arith}
use Rattle.std.proofs.lemmas.List.{take_more}
use Rattle.bw_shape.specs.Nodes.Templates.{template_at}
use Rattle.bw_explain.specs.declared.atom.Atom.{Atom}
use Rattle.bw_explain.specs.Explained.{FindsOne, IsBest, spot_of}
use Rattle.bw_explain.specs.Ways.{graph}
use Rattle.bw_explain.proofs.Best.{best_none, best_more}
use Rattle.bw_explain.proofs.finding.find_all.Goals as goal

pub loop-atom-init : goal.loop-atom-init
loop-atom-init c = best_none (FindsOne (template_at c.args.ground.now.page.now.templates.now) (graph c.args.ground.now.page.now.nodes.now)
    (spot_of c.args.spot.now)
    c.args.rule.now [] c.args.root) _ (λ e h. let l = h.1.1 in absurd (omega (arith, l)))

pub loop-atom-preserved : goal.loop-atom-preserved
loop-atom-preserved c =
    let xs = c.args.atoms.now in
    let i = c.loop-atom.atom-index in
    let x : Atom = c.atom-item.result in
    let T = template_at c.args.ground.now.page.now.templates.now in
    let G = graph c.args.ground.now.page.now.nodes.now in
    let p = spot_of c.args.spot.now in
    subst (λ (l : _). IsBest (FindsOne T G p c.args.rule.now l c.args.root) c.better-best.result.size c.better-best.result.doc)
    (sym (take_more xs i x c.loop-atom-test.true ∙ ap (λ z. take i xs ++ z ∷ []) (sym c.atom-item.is)))
    (best_more T G p c.args.rule.now (take i xs) x c.args.root c.loop-atom.best c.in-Ok.next c.better-best.result
    c.loop-atom.invariant c.in-Ok.ensures c.better-best.ensures)
