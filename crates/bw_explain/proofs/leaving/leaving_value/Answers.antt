use Rattle.std.proofs.Common.{refl, ap, sym, ◌∙◌, subst}
use Rattle.bw_lang.specs.declared.items.AttrValue.TheVariants.{Fixed, Hole}
use Rattle.bw_sum.specs.Unfolding.{FillsValue, kept, left_open, said_in}
use Rattle.bw_explain.specs.Ways.{ways_at, way_of, says, graph}
use Rattle.bw_explain.specs.Atoms.{passes, fails}
use Rattle.bw_explain.specs.Owns.{may_leave}
use Rattle.std.proofs.lemmas.Bool.{not-true}
use Rattle.bw_explain.proofs.leaving.leaving_value.Goals as goal

pub returns-in_ok-copy-in-Fixed : goal.returns-in_ok-copy-in-Fixed
returns-in_ok-copy-in-Fixed c = (
  subst (λ v. FillsValue (graph c.args.page.now.nodes.now) c.args.n v (Fixed c.in_ok-copy-in-Fixed.field-0))
      (ap Fixed c.in_ok-copy-in-Fixed.ensures ∙ sym c.in-Fixed.is) kept,
  ap (passes c.args.breach.now.rule.now c.args.breach.now.atom.now c.args.attr.now.name) c.in_ok-copy-in-Fixed.ensures
      ∙ not-true (passes c.args.breach.now.rule.now c.args.breach.now.atom.now c.args.attr.now.name c.in-Fixed.text)
      (ap (may_leave (ways_at c.args.page.now.nodes.now c.args.n) (passes c.args.breach.now.rule.now c.args.breach.now.atom.now)
      (fails c.args.breach.now.rule.now c.args.breach.now.atom.now)
      c.args.attr.now.name) (sym c.in-Fixed.is) ∙ c.requires.leaves),
)

pub returns-then-is_open : goal.returns-then-is_open
returns-then-is_open c = (
  subst (λ v. FillsValue (graph c.args.page.now.nodes.now) c.args.n v (Hole c.in-Hole.gap)) (sym c.in-Hole.is)
      (left_open (ap (λ x. (way_of x c.in-Hole.gap).is_open) (sym c.node.ensures) ∙ ap (λ x. x.is_open) c.in-Some.ensures ∙ sym c.if-is_open.ensures)),
  refl,
)

pub returns-in_ok-word-in-Some : goal.returns-in_ok-word-in-Some
returns-in_ok-word-in-Some c = (
  subst (λ v. FillsValue (graph c.args.page.now.nodes.now) c.args.n v (Fixed c.in_ok-word-in-Some.word)) (sym c.in-Hole.is)
      (said_in (ap (λ x. says (way_of x c.in-Hole.gap) c.in_ok-word-in-Some.word) (sym c.node.ensures)
      ∙ ap (λ x. says x c.in_ok-word-in-Some.word) c.in-Some.ensures ∙ c.in_ok-word-in-Some.ensures.0)),
  ap (λ x. passes c.args.breach.now.rule.now c.args.breach.now.atom.now x c.in_ok-word-in-Some.word) (sym c.as_str.ensures.text)
      ∙ c.in_ok-word-in-Some.ensures.1,
)
