use Rattle.bw_keeping.proofs.StreamsWithin.{streams_keep_within}
use Rattle.bw_keeping.proofs.laws.streams_keep_within.Goals as goal

pub returns : goal.returns
returns c = streams_keep_within
