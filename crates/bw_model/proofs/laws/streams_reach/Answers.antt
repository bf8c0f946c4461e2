use Rattle.bw_model.proofs.laws.streams_reach.Goals as goal
use Rattle.bw_model.proofs.Reaching.{reached_on, streams_reach}

pub returns : goal.returns
returns c = record { streams = streams_reach; on = reached_on }
