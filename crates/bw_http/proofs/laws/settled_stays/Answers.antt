use Rattle.bw_http.proofs.Streams.{settled_stays}
use Rattle.bw_http.proofs.laws.settled_stays.Goals as goal

pub returns : goal.returns
returns c = settled_stays
