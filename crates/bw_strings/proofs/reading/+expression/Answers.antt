use Rattle.bw_strings.proofs.Walks.{noted, by_pairs}
use Rattle.bw_strings.proofs.reading.+expression.Goals as goal

pub note_pairs-loop-pair-preserved : goal.note_pairs-loop-pair-preserved
note_pairs-loop-pair-preserved t c =
    noted by_pairs _ _ _ _ _ _ c.pair-item.is c.loop-pair-test.true c.in_ok-note_expr.ensures c.loop-pair.invariant
