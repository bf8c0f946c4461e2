use Rattle.std.proofs.Common.{◌≡◌, ◌++◌, take}
use Rattle.bw_schema.specs.NeedsView.{needs}
use Rattle.bw_schema.specs.Marks.{used_in}
use Rattle.bw_schema.proofs.claims.+uses.Given as goal

abbrev pub decreases-use_formulas : goal.decreases-use_formulas
decreases-use_formulas l = goal.size-use_formulas l

abbrev pub decreases-use_formula : goal.decreases-use_formula
decreases-use_formula l = goal.size-use_formula l

abbrev pub invariant-use_formulas-loop-formula : goal.invariant-use_formulas-loop-formula
invariant-use_formulas-loop-formula l = l.marks ≡ l.fn.marks ++ used_in l.rule (needs (take l.formula-index l.formula-items))
