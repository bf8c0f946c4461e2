use Rattle.std.proofs.Common.{◌+◌, [], ◌∷◌, ◌++◌, take, refl, ap, subst, sym, ◌∙◌}
use Rattle.std.proofs.lemmas.List.{take_more}
use Rattle.bw_lang.specs.declared.items.Attr.{Attr}
use Rattle.bw_sum.specs.Unfolding.{FillsAttrs, no_more}
use Rattle.bw_explain.specs.Ways.{graph}
use Rattle.bw_explain.specs.Atoms.{passes}
use Rattle.bw_explain.specs.Owns.{has_passing}
use Rattle.bw_explain.proofs.Filling.{attrs_then}
use Rattle.bw_explain.proofs.OwnLaws.{passing_then}
use Rattle.bw_explain.proofs.leaving.add_leaving.Goals as goal

pub loop-attr-init : goal.loop-attr-init
loop-attr-init c = (
  subst (λ o. FillsAttrs (graph c.args.page.now.nodes.now) c.args.n [] o) (sym c.requires.empty) no_more,
  ap
      (has_passing (passes c.args.lack.now.breach.now.rule.now c.args.lack.now.breach.now.atom.now) c.args.lack.now.name.now) c.requires.empty,
)

pub loop-attr-preserved : goal.loop-attr-preserved
loop-attr-preserved c =
    let x : Attr = c.attr-item.result in
    let y : Attr = record { name = x.name; value = c.in_ok-value.value } in
    let p = c.in_ok-push.ensures.ok ∙ ap (λ z. c.loop-attr.out ++ z ∷ []) c.in_ok-attr_of.ensures in
    let xs = c.as_slice-attr-items.result.now in
    let i = c.loop-attr.attr-index in
    let e = take_more xs i x c.loop-attr-test.true ∙ ap (λ z. take i xs ++ z ∷ []) (sym c.attr-item.is) in (
      subst (λ o. FillsAttrs (graph c.args.page.now.nodes.now) c.args.n (take (i + 1) xs) o) (sym p)
          (subst (λ l. FillsAttrs (graph c.args.page.now.nodes.now) c.args.n l (c.loop-attr.out ++ y ∷ [])) (sym e)
          (attrs_then x y refl c.loop-attr.invariant.0 c.in_ok-value.ensures.0)),
      ap (has_passing (passes c.args.lack.now.breach.now.rule.now c.args.lack.now.breach.now.atom.now) c.args.lack.now.name.now) p
          ∙ passing_then (passes c.args.lack.now.breach.now.rule.now c.args.lack.now.breach.now.atom.now) c.args.lack.now.name.now c.loop-attr.out y
          c.loop-attr.invariant.1
          c.in_ok-value.ensures.1,
    )
