use Rattle.bw_model.proofs.laws.others_change_nothing.Goals as goal
use Rattle.bw_model.proofs.Quiet.{others_change_nothing}

pub returns : goal.returns
returns c = others_change_nothing
