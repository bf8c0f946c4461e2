use Rattle.std.proofs.Common.{sym, ap, ◌∙◌, ◌==◌}
use Rattle.std.proofs.lemmas.Bool.{false≢true}
use Rattle.bw_schema.specs.Rules.{rule_of}
use Rattle.bw_shape.specs.Outlines.{root_of}
use Rattle.bw_strings.specs.Literals.{literals_of}
use Rattle.bw_sum.specs.Graph.{graph as summary_graph}
use Rattle.bw_explain.proofs.Faulty.{fault_is_placed, placed_there, spot_has_rule}
use Rattle.bw_explain.proofs.split.is_split.Goals as goal

pub returns-then-fault-ne7 : goal.returns-then-fault-ne7
returns-then-fault-ne7 c = (λ h. absurd (false≢true h), λ h x. c.if-fault-ne7.true x.number)

pub element_of-spot-requires : goal.element_of-spot-requires
element_of-spot-requires c =
    let b = c.args.basis.now in
    let f = c.args.fault.now in
    let s = b.typed.now.service in
    placed_there b.templates.now b.schema.now.elements f (fault_is_placed s b.templates.now b.templates_are (summary_graph (literals_of s) c.args.page.now)
    (root_of c.args.page.now) b.schema.now f.point f c.requires.fault (ap (λ n. n == 6) c.if-fault-ne7.false))

pub rule_at-rule-requires : goal.rule_at-rule-requires
rule_at-rule-requires c =
    let b = c.args.basis.now in
    let f = c.args.fault.now in
    let s = b.typed.now.service in
    let x = spot_has_rule b.templates.now b.schema.now.elements f (fault_is_placed s b.templates.now b.templates_are
    (summary_graph (literals_of s) c.args.page.now) (root_of c.args.page.now) b.schema.now f.point f c.requires.fault (ap (λ n. n == 6) c.if-fault-ne7.false))
    c.element_of-spot.result c.element_of-spot.ensures in
    (x.0, ap (λ rs. rule_of rs c.element_of-spot.result.element.now.tag) c.elements.ensures ∙ x.1)

pub is_split_at-requires-clause-spot : goal.is_split_at-requires-clause-spot
is_split_at-requires-clause-spot c = c.element_of-spot.ensures

pub is_split_at-requires-clause-rule : goal.is_split_at-requires-clause-rule
is_split_at-requires-clause-rule c =
    ap (λ rs. rule_of rs c.element_of-spot.result.element.now.tag) (sym c.elements.ensures) ∙ c.rule_at-rule.ensures
