use Rattle.bw_visit.proofs.Posted.{refused_alike}
use Rattle.bw_visit.proofs.laws.refused_alike.Goals as goal

pub returns : goal.returns
returns c = refused_alike
