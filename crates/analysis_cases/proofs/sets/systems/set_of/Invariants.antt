use Rattle.std.proofs.Common.{◌≡◌, [], drop}
use Rattle.analysis_cases.specs.Cells.{filled}
use Rattle.analysis_cases.proofs.sets.systems.set_of.Given as goal

abbrev pub invariant-loop-number : goal.invariant-loop-number
invariant-loop-number l = filled l.set (drop l.number-index l.numbers) ≡ filled [] l.numbers
