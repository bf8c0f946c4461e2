use Rattle.std.proofs.Common.{◌≡◌, ◌⊎◌, inl, inr, ℕ, ◌<◌, ◌+◌, get_or, ap, sym, ◌∙◌, subst, arith}
use Rattle.std.proofs.lemmas.List.{get_or_default}
use Rattle.bw_lang.proofs.TableLaws.{extends_trans}
use Rattle.bw_shape.specs.Nodes.Templates.{template_at}
use Rattle.bw_shape.specs.Columns.{AreKnown}
use Rattle.bw_shape.proofs.KnownTags.{known_stay}
use Rattle.bw_shape.proofs.tables.take_tops.Goals as goal

last : (k c : ℕ) → c < k + 1 → (c < k) ⊎ (c ≡ k)
last k c h = grind arith

pub loop-n-preserved : goal.loop-n-preserved
loop-n-preserved c =
    let e = c.in_ok-take_tags.ensures.front in (
      extends_trans c.args.tags.now c.loop-n.tags c.take_tags.new.tags c.loop-n.invariant.0 e,
      λ i h. elim (last c.loop-n.n-index i h) [
        | inl it ↦ known_stay c.loop-n.tags c.take_tags.new.tags (template_at c.args.templates.now (get_or c.args.order.now i 0)) e (c.loop-n.invariant.1 i it)
        | inr it ↦ subst (λ j. AreKnown c.take_tags.new.tags (template_at c.args.templates.now (get_or c.args.order.now j 0))) (sym it)
            (let b = c.requires c.loop-n.n-index 0 c.loop-n-test.true in
            subst (AreKnown c.take_tags.new.tags)
            (c.at.ensures ∙ ap (λ j. template_at c.args.templates.now j) (get_or_default c.args.order.now c.loop-n.n-index _ 0 c.loop-n-test.true))
            c.in_ok-take_tags.ensures.known)
      ],
    )

pub returns-clause-known : goal.returns-clause-known
returns-clause-known c = λ k d h. subst (λ n. AreKnown c.loop-n.tags (template_at c.args.templates.now n)) (get_or_default c.args.order.now k 0 d h)
    (c.loop-n.invariant.1 k (omega (arith, h, c.loop-n-test.false)))
