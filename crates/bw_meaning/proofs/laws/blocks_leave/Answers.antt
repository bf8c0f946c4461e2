use Rattle.bw_meaning.proofs.laws.blocks_leave.Goals as goal
use Rattle.bw_meaning.proofs.Blocks.{blocks_leave, answered_blocks_leave}

pub returns-clause-block : goal.returns-clause-block
returns-clause-block c = blocks_leave

pub returns-clause-answered : goal.returns-clause-answered
returns-clause-answered c = answered_blocks_leave
