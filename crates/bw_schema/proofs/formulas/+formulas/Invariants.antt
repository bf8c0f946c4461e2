use Rattle.std.proofs.Common.{◌≡◌, ◌+◌, ◌*◌, length}
use Rattle.bw_schema.proofs.FormulaLoops.{all_needs, onto}
use Rattle.bw_schema.proofs.formulas.+formulas.Given as goal

abbrev pub decreases-formula_at : goal.decreases-formula_at
decreases-formula_at l = 5 * l.depth

abbrev pub decreases-needs_at : goal.decreases-needs_at
decreases-needs_at l = 5 * l.depth + 1

abbrev pub decreases-parts_at : goal.decreases-parts_at
decreases-parts_at l = 5 * l.depth + 2

abbrev pub decreases-inside_at : goal.decreases-inside_at
decreases-inside_at l = 5 * l.depth + 3

abbrev pub decreases-opened_at : goal.decreases-opened_at
decreases-opened_at l = 5 * l.depth + 4

abbrev pub invariant-needs_at-parts : goal.invariant-needs_at-parts
invariant-needs_at-parts l = onto l.needs (all_needs l.depth l.rest) ≡ all_needs l.depth l.words

abbrev pub decreases-needs_at-parts : goal.decreases-needs_at-parts
decreases-needs_at-parts l = length l.rest
