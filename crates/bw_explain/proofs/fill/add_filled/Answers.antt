use Rattle.std.proofs.Common.{◌+◌, [], ◌∷◌, ◌++◌, take, refl, ap, subst, sym, ◌∙◌}
use Rattle.std.proofs.lemmas.List.{take_more, take_all}
use Rattle.bw_lang.specs.declared.items.Attr.{Attr}
use Rattle.bw_sum.specs.Unfolding.{FillsAttrs, no_more}
use Rattle.bw_explain.specs.Ways.{graph}
use Rattle.bw_explain.proofs.Filling.{attrs_then, fills_attrs}
use Rattle.bw_explain.proofs.fill.add_filled.Goals as goal

pub loop-attr-init : goal.loop-attr-init
loop-attr-init c = subst (λ o. FillsAttrs (graph c.args.page.now.nodes.now) c.args.n [] o) (sym c.requires.empty) no_more

pub loop-attr-preserved : goal.loop-attr-preserved
loop-attr-preserved c =
    let x : Attr = c.attr-item.result in
    let y : Attr = record { name = x.name; value = c.in_ok-value.value } in
    let p = c.in_ok-push.ensures.ok ∙ ap (λ z. c.loop-attr.out ++ z ∷ []) c.in_ok-attr_of.ensures in
    let xs = c.as_slice-attr-items.result.now in
    let e = take_more xs c.loop-attr.attr-index x c.loop-attr-test.true ∙ ap (λ z. take c.loop-attr.attr-index xs ++ z ∷ []) (sym c.attr-item.is) in
    subst (λ o. FillsAttrs (graph c.args.page.now.nodes.now) c.args.n (take (c.loop-attr.attr-index + 1) xs) o) (sym p)
    (subst (λ l. FillsAttrs (graph c.args.page.now.nodes.now) c.args.n l (c.loop-attr.out ++ y ∷ [])) (sym e)
    (attrs_then x y refl c.loop-attr.invariant c.in_ok-value.ensures))

pub returns : goal.returns
returns c =
    let xs = c.as_slice-attr-items.result.now in
    let f = subst (λ l. FillsAttrs (graph c.args.page.now.nodes.now) c.args.n l c.loop-attr.out)
    (take_all c.loop-attr.attr-index xs c.loop-attr-test.false ∙ c.as_slice-attr-items.ensures) c.loop-attr.invariant in
    (f, (fills_attrs c.args.page.now.nodes.now f).1)
