use Rattle.std.proofs.Common.{◌≡◌, drop}
use Rattle.bw_schema.specs.NeedsView.{needs}
use Rattle.bw_schema.specs.Validity.{holds}
use Rattle.bw_valid.proofs.formulas.+holds.Given as goal

abbrev pub decreases-holds : goal.decreases-holds
decreases-holds l = goal.size-holds l

abbrev pub decreases-holds_alone : goal.decreases-holds_alone
decreases-holds_alone l = goal.size-holds_alone l

abbrev pub invariant-holds-loop-formula : goal.invariant-holds-loop-formula
invariant-holds-loop-formula l = holds l.all l.formulas l.attrs l.items ≡ holds l.all (needs (drop l.formula-index l.formula-items)) l.attrs l.items
