use Rattle.bw_diagnose.proofs.FoundGaps.{gaps_are_found as law}
use Rattle.bw_diagnose.proofs.laws.gaps_are_found.Goals as goal

pub returns : goal.returns
returns c = law
