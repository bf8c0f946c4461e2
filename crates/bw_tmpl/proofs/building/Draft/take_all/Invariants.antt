use Rattle.std.proofs.Common.{◌≡◌, drop, Some}
use Rattle.bw_tmpl.specs.Building.{draft_after_all}
use Rattle.bw_tmpl.proofs.building.Draft.take_all.Given as goal

abbrev pub invariant-loop-piece : goal.invariant-loop-piece
invariant-loop-piece l = draft_after_all l.gaps (Some l.self) (drop l.piece-index l.pieces) ≡ draft_after_all l.gaps (Some l.fn.self) l.pieces
