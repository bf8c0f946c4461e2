use Rattle.std.proofs.Common.{take}
use Rattle.bw_schema.specs.NeedsView.{needs}
use Rattle.bw_shape.specs.Formulas.{Names}
use Rattle.bw_shape.proofs.naming.+naming.Given as goal

abbrev pub decreases-name_formula : goal.decreases-name_formula
decreases-name_formula l = goal.size-name_formula l

abbrev pub decreases-name_formulas : goal.decreases-name_formulas
decreases-name_formulas l = goal.size-name_formulas l

abbrev pub invariant-name_formulas-loop-formula : goal.invariant-name_formulas-loop-formula
invariant-name_formulas-loop-formula l = Names l.initial.tags l.tags l.initial.pairs.items l.pairs.items (needs (take l.formula-index l.formula-items))
