use Rattle.bw_model.proofs.laws.steps_are_short.Goals as goal
use Rattle.bw_model.proofs.Quiet.{steps_are_short}

pub returns : goal.returns
returns c = steps_are_short
