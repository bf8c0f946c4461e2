use Rattle.std.proofs.Common.{◌≡◌, ◌⊎◌, inl, inr, ℕ, ◌+◌, ◌<◌, List, length, get_or, ap, sym, ◌∙◌, subst, arith}
use Rattle.std.specs.List.{Contains}
use Rattle.std.proofs.lemmas.List.{get_or_default}
use Rattle.bw_schema.specs.declared.rules.Rule.{Rule}
use Rattle.bw_sum.proofs.ReadGaps.{longer}
use Rattle.bw_shape.specs.Formulas.{AreNamed}
use Rattle.bw_shape.specs.Formulas.{Names}
use Rattle.bw_shape.proofs.Stays.{named_stay}
use Rattle.bw_shape.proofs.naming.name_rules.Goals as goal

last : (k c : ℕ) → c < k + 1 → (c < k) ⊎ (c ≡ k)
last k c h = grind arith

-- one rule more
rule_more : (rules : List Rule) (k : ℕ) (r : Rule) (a b : List (List ℕ)) (p q : List (ℕ × ℕ)) → r ≡ get_or rules k r → k < length rules → Names a b p q r.needs
    → ((i : ℕ) (d : Rule) → i < k → AreNamed a (length a) p (get_or rules i d).needs) → (i : ℕ) (d : Rule) → i < k + 1
    → AreNamed b (length b) q (get_or rules i d).needs
rule_more rules k r a b p q e l n h i d m = elim (last k i m) [
  | inl it ↦
      subst (λ z. AreNamed b (length b) z (get_or rules i d).needs) (sym n.behind.1)
      (named_stay a b (length a) (length b) p n.behind.0 n.front (omega arith) (longer a b n.front) (get_or rules i d).needs (h i d it))
  | inr it ↦ subst (λ z. AreNamed b (length b) q z.needs) (e ∙ get_or_default rules k r d l ∙ ap (λ j. get_or rules j d) (sym it)) n.named
]

pub loop-rule-preserved : goal.loop-rule-preserved
loop-rule-preserved c = (
  c.in_ok-name_formulas.ensures.small c.loop-rule.invariant.0,
  rule_more c.as_slice-rule-items.result.now c.loop-rule.rule-index c.rule-item.result c.loop-rule.tags c.name_formulas.new.tags
      c.loop-rule.pairs.items c.name_formulas.new.pairs.items
      c.rule-item.is c.loop-rule-test.true c.in_ok-name_formulas.ensures c.loop-rule.invariant.1,
)

pub returns-clause-named : goal.returns-clause-named
returns-clause-named c = λ r h.
    let rules = c.as_slice-rule-items.result.now in
    let m = subst (λ (xs : List Rule). Contains xs r) (sym c.as_slice-rule-items.ensures) h in
    subst (λ z. AreNamed c.loop-rule.tags (length c.loop-rule.tags) c.loop-rule.pairs.items z.needs) m.2
    (c.loop-rule.invariant.1 m.0 r (let l = m.1 in omega (arith, l, c.loop-rule-test.false)))
