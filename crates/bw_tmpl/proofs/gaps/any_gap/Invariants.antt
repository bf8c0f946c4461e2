use Rattle.std.proofs.Common.{◌≡◌, drop}
use Rattle.bw_lang.specs.Template.PieceGaps.{gap_names}
use Rattle.bw_tmpl.proofs.gaps.any_gap.Given as goal

abbrev pub invariant-loop-piece : goal.invariant-loop-piece
invariant-loop-piece l = gap_names (drop l.piece-index l.pieces) ≡ gap_names l.pieces
