use Rattle.std.proofs.Common.{◌≡◌, drop}
use Rattle.bw_schema.specs.RulesOf.{own, rule_with}
use Rattle.bw_schema.proofs.Loops.{filled}
use Rattle.bw_schema.proofs.building.rule_of.Given as goal

abbrev pub invariant-loop-line : goal.invariant-loop-line
invariant-loop-line l = rule_with l.tag (own l.lines) ≡ filled l.rule (own (drop l.line-index l.lines))
