use Rattle.bw_cover.proofs.Received.{shows_receive}
use Rattle.bw_cover.proofs.laws.shows_receive.Goals as goal

pub returns : goal.returns
returns c = shows_receive
