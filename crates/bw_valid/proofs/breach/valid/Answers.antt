use Rattle.std.proofs.Common.{List, ap, sym, ◌∙◌, arith}
use Rattle.bw_schema.specs.Validity.{is_rooted}
use Rattle.bw_schema.specs.declared.rules.Rule.{Rule}
use Rattle.bw_valid.specs.Breaches.{first_broken}
use Rattle.bw_valid.proofs.BreachLaws.{unbroken}
use Rattle.bw_valid.proofs.breach.valid.Goals as goal

pub returns-in-Ok-clause-ok : goal.returns-in-Ok-clause-ok
returns-in-Ok-clause-ok c = record {
  root = ap (λ r. is_rooted r c.args.tree.now.items) (sym (c.as_str.ensures.text ∙ c.root.ensures)) ∙ sym c.is_rooted.ensures
      ∙ grind (arith, c.if-not-is_rooted.false);
  each = unbroken c.args.schema.now.elements 0 c.args.tree.now.items
      (ap (λ (rules : List Rule). first_broken rules 0 c.args.tree.now.items) (sym c.elements.ensures) ∙ c.in-Ok.ensures.ok.0);
}
