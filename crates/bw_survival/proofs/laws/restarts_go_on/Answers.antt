use Rattle.bw_survival.proofs.Restarting.{restarts_go_on}
use Rattle.bw_survival.proofs.laws.restarts_go_on.Goals as goal

pub returns : goal.returns
returns c = restarts_go_on
