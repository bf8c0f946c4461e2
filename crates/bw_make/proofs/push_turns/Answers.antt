use Rattle.bw_make.specs.Made.{turn_line}
use Rattle.bw_make.proofs.Lines.{goes_on}
use Rattle.bw_make.proofs.push_turns.Goals as goal

pub loop-page-preserved : goal.loop-page-preserved
loop-page-preserved c = goes_on turn_line _ _ _ _ _ c.loop-page-test.true c.in_ok-push_turn.ensures c.loop-page.invariant
