use Rattle.std.proofs.Common.{ap, sym, ◌∙◌}
use Rattle.std.proofs.lemmas.Result.{IfOk-weaker}
use Rattle.bw_shape.specs.Nodes.Templates.{template_at}
use Rattle.bw_schema.specs.Rules.{rule_of}
use Rattle.bw_explain.specs.declared.explained.Explained.{Explained}
use Rattle.bw_explain.specs.Explained.{spot_of}
use Rattle.bw_explain.specs.Ways.{graph}
use Rattle.std.proofs.lemmas.Option.{same_Some}
use Rattle.bw_explain.proofs.Faulty.{by_rule, spot_is}
use Rattle.std.proofs.Common.{arith}
use Rattle.bw_explain.proofs.fault.explain_spot.Goals as goal

pub explain_element-requires-clause-spot : goal.explain_element-requires-clause-spot
explain_element-requires-clause-spot c = c.requires.spot.low

pub explain_element-requires-clause-within : goal.explain_element-requires-clause-within
explain_element-requires-clause-within c = let a = c.requires.few c.args.spot.now.template in let b = c.requires.spot.few in omega (arith, a, b)

pub returns : goal.returns
returns c =
    let T = template_at c.args.page.now.templates.now in
    let s = c.args.spot.now in
    let f = c.args.fault.now in
    let rules = c.args.schema.now.elements in
    IfOk-weaker c.explain_element.result _ _ (λ (e : Explained) h p r is. by_rule T (graph c.args.page.now.nodes.now) rules f c.args.root e (spot_of s)
    c.rule_at-rule.result.now (ap (λ rs. rule_of rs s.element.now.tag) (sym c.elements.ensures) ∙ c.rule_at-rule.ensures) h
    p r is (spot_is T rules f p r s.template s.place s.element.now is
    (same_Some p.template s.template (sym is.template ∙ c.requires.spot.template)) (sym c.requires.spot.place) c.requires.spot.at))
    c.explain_element.ensures

pub rule_at-rule-requires : goal.rule_at-rule-requires
rule_at-rule-requires c = (c.requires.rule.0, ap (λ rs. rule_of rs c.args.spot.now.element.now.tag) c.elements.ensures ∙ c.requires.rule.1)
