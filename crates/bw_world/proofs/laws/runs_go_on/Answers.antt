use Rattle.bw_world.proofs.Streams.Runs.{runs_go_on}
use Rattle.bw_world.proofs.laws.runs_go_on.Goals as goal

pub returns : goal.returns
returns c = runs_go_on
