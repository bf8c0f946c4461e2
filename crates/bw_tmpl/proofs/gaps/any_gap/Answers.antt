use Rattle.std.proofs.Common.{◌∙◌}
use Rattle.bw_tmpl.proofs.GapLaws.{gap_here}
use Rattle.bw_tmpl.proofs.gaps.any_gap.Goals as goal

pub returns-then-piece_has_gap : goal.returns-then-piece_has_gap
returns-then-piece_has_gap c none =
    gap_here c.args.pieces.now c.loop-piece.piece-index c.piece-item.result c.loop-piece-test.true c.piece-item.is c.if-piece_has_gap.ensures
    (c.loop-piece.invariant ∙ none)
