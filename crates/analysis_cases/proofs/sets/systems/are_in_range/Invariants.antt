use Rattle.std.proofs.Common.{ℕ, ◌<◌, length}
use Rattle.std.specs.List.{All}
use Rattle.analysis_cases.specs.Cells.{readers_at}
use Rattle.analysis_cases.proofs.sets.systems.are_in_range.Given as goal

abbrev pub invariant-loop-cell : goal.invariant-loop-cell
invariant-loop-cell l = (k : ℕ) → k < l.cell-index → All (λ reader. reader < length l.cells) (readers_at l.cells k)
