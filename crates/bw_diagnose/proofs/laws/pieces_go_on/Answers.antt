use Rattle.bw_diagnose.proofs.GoesOn.{pieces_go_on as law}
use Rattle.bw_diagnose.proofs.laws.pieces_go_on.Goals as goal

pub returns : goal.returns
returns c = law
