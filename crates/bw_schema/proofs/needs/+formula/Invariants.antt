use Rattle.std.proofs.Common.{◌≡◌, take}
use Rattle.bw_schema.specs.NeedsView.{needs}
use Rattle.bw_schema.proofs.needs.+formula.Given as goal

abbrev pub decreases-Formulas::copy : goal.decreases-Formulas::copy
decreases-Formulas::copy l = goal.size-Formulas::copy l

abbrev pub decreases-Formula::copy : goal.decreases-Formula::copy
decreases-Formula::copy l = goal.size-Formula::copy l

abbrev pub invariant-Formulas::copy-loop-formula : goal.invariant-Formulas::copy-loop-formula
invariant-Formulas::copy-loop-formula l = l.copy ≡ needs (take l.formula-index l.formula-items)
