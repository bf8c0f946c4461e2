use Rattle.std.proofs.Common.{◌≡◌, ◌++◌, length}
use Rattle.bw_schema.specs.RulesOf.{rules_of}
use Rattle.bw_schema.proofs.building.rules_of.Given as goal

abbrev pub invariant-loop-rest : goal.invariant-loop-rest
invariant-loop-rest l = rules_of l.lines ≡ l.rules.items ++ rules_of l.rest

abbrev pub decreases-loop-rest : goal.decreases-loop-rest
decreases-loop-rest l = length l.rest
