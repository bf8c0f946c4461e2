use Rattle.bw_typed.proofs.Apart.{locals_are_apart}
use Rattle.bw_typed.proofs.laws.locals_are_apart.Goals as goal

pub returns : goal.returns
returns c = locals_are_apart
