use Rattle.bw_flow.proofs.Few.{points_are_few}
use Rattle.bw_flow.proofs.laws.points_are_few.Goals as goal

pub returns : goal.returns
returns c = points_are_few
