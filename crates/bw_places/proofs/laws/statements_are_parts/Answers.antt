use Rattle.bw_places.proofs.Numbered.{statements_are_parts as law}
use Rattle.bw_places.proofs.laws.statements_are_parts.Goals as goal

pub returns : goal.returns
returns c = law
