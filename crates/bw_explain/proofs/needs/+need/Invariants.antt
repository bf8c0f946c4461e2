use Rattle.std.proofs.Common.{◌≡◌, ◌++◌, drop}
use Rattle.bw_schema.specs.NeedsView.{needs}
use Rattle.bw_explain.specs.Atoms.{need_atoms}
use Rattle.bw_explain.proofs.needs.+need.Given as goal

abbrev pub decreases-add_need : goal.decreases-add_need
decreases-add_need l = goal.size-add_need l

abbrev pub decreases-add_needs : goal.decreases-add_needs
decreases-add_needs l = goal.size-add_needs l

abbrev pub invariant-add_needs-loop-formula : goal.invariant-add_needs-loop-formula
invariant-add_needs-loop-formula l = l.initial.ways.items ++ need_atoms l.formulas ≡ l.ways.items ++ need_atoms (needs (drop l.formula-index l.formula-items))
