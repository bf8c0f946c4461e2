use Rattle.std.proofs.Common.{◌≡◌, ◌++◌, drop, map}
use Rattle.bw_flow.specs.View.{seen}
use Rattle.bw_check.specs.Pieces.{pages_from}
use Rattle.bw_check.proofs.pieces.pieces_of.Given as goal

abbrev pub invariant-loop-place : goal.invariant-loop-place
invariant-loop-place l = l.pieces.items ++ pages_from l.place (map seen (drop l.place l.point-items)) ≡ pages_from 0 l.flow.steps
