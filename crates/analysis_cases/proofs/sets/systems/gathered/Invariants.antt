use Rattle.std.proofs.Common.{◌≡◌, [], slice_index_or}
use Rattle.analysis_cases.specs.Cells.{gathered}
use Rattle.analysis_cases.proofs.sets.systems.gathered.Given as goal

abbrev pub invariant-loop-source : goal.invariant-loop-source
invariant-loop-source l = l.all ≡ gathered l.cells l.cell (λ c. slice_index_or l.values c []) l.source
