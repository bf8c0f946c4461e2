use Rattle.std.proofs.Common.{◌+◌, ap, drop, sym, ◌∙◌}
use Rattle.bw_schema.specs.RulesOf.{own}
use Rattle.bw_schema.specs.declared.rules.Rule.{Rule}
use Rattle.bw_schema.proofs.Loops.{filled, filled_end, rule_ends, rule_more}
use Rattle.bw_schema.proofs.building.rule_of.Goals as goal

pub returns-in-Element : goal.returns-in-Element
returns-in-Element c =
    sym (c.loop-line.invariant
    ∙ rule_ends c.loop-line.rule c.args.lines.now c.loop-line.line-index c.line-item.result c.in-Element.field-0 c.line-item.is c.loop-line-test.true
    c.in-Element.is)

pub loop-line-preserved : goal.loop-line-preserved
loop-line-preserved c =
    c.loop-line.invariant
    ∙ rule_more c.loop-line.rule c.args.lines.now c.loop-line.line-index c.line-item.result c.line-item.is c.loop-line-test.true c.in_default.not-Element
    ∙ ap (λ (r : Rule). filled r (own (drop (c.loop-line.line-index + 1) c.args.lines.now))) (sym c.in_ok-add_line.ensures)

pub returns : goal.returns
returns c = sym (c.loop-line.invariant ∙ filled_end c.loop-line.rule c.args.lines.now c.loop-line.line-index c.loop-line-test.false)
