use Rattle.bw_survival.proofs.Surviving.{links_survive}
use Rattle.bw_survival.proofs.laws.links_survive.Goals as goal

pub returns : goal.returns
returns c = links_survive
