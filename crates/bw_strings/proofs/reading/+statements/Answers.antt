use Rattle.bw_strings.proofs.Walks.{noted, by_statements}
use Rattle.bw_strings.proofs.reading.+statements.Goals as goal

pub note_block-loop-stmt-preserved : goal.note_block-loop-stmt-preserved
note_block-loop-stmt-preserved t c =
    noted by_statements _ _ _ _ _ _ c.stmt-item.is c.loop-stmt-test.true c.in_ok-note_stmt.ensures c.loop-stmt.invariant
