use Rattle.bw_near.proofs.Nearest.{nearest_is_near as law}
use Rattle.bw_near.proofs.laws.nearest_is_near.Goals as goal

pub returns : goal.returns
returns c = law
