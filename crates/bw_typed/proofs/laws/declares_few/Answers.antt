use Rattle.bw_typed.proofs.Few.{declares_few}
use Rattle.bw_typed.proofs.laws.declares_few.Goals as goal

pub returns : goal.returns
returns c = declares_few
