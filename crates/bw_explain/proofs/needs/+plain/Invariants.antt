use Rattle.std.proofs.Common.{◌≡◌, drop}
use Rattle.bw_schema.specs.NeedsView.{needs}
use Rattle.bw_explain.specs.Atoms.{is_plain}
use Rattle.bw_explain.proofs.needs.+plain.Given as goal

abbrev pub decreases-is_plain : goal.decreases-is_plain
decreases-is_plain l = goal.size-is_plain l

abbrev pub decreases-are_plain : goal.decreases-are_plain
decreases-are_plain l = goal.size-are_plain l

abbrev pub invariant-are_plain-loop-formula : goal.invariant-are_plain-loop-formula
invariant-are_plain-loop-formula l = is_plain l.formulas ≡ is_plain (needs (drop l.formula-index l.formula-items))
