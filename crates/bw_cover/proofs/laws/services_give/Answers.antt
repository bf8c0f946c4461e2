use Rattle.bw_cover.proofs.laws.services_give.Goals as goal
use Rattle.bw_cover.proofs.Literals.{typed_literals}

pub returns : goal.returns
returns c = typed_literals
