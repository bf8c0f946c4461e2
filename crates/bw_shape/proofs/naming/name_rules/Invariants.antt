use Rattle.std.proofs.Common.{ℕ, ◌<◌, length, get_or}
use Rattle.bw_schema.specs.declared.rules.Rule.{Rule}
use Rattle.bw_shape.specs.Formulas.{AreNamed}
use Rattle.bw_shape.specs.Formulas.{AreColumns}
use Rattle.bw_shape.proofs.naming.name_rules.Given as goal

abbrev pub invariant-loop-rule : goal.invariant-loop-rule
invariant-loop-rule l = AreColumns (length l.tags) l.pairs.items
    × ((i : ℕ) (d : Rule) → i < l.rule-index → AreNamed l.tags (length l.tags) l.pairs.items (get_or l.rule-items i d).needs)
