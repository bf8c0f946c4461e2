use Rattle.bw_world.proofs.Streams.Within.{courses_keep_within}
use Rattle.bw_world.proofs.laws.courses_keep_within.Goals as goal

pub returns : goal.returns
returns c = courses_keep_within
