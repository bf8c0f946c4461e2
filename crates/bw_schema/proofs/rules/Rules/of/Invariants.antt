use Rattle.std.proofs.Common.{◌≡◌, drop}
use Rattle.bw_schema.specs.Rules.{rule_of}
use Rattle.bw_schema.proofs.rules.Rules.of.Given as goal

abbrev pub invariant-loop-rule : goal.invariant-loop-rule
invariant-loop-rule l = rule_of l.self l.tag ≡ rule_of (drop l.rule-index l.rule-items) l.tag
