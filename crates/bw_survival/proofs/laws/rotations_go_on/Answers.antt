use Rattle.bw_survival.proofs.Rotating.{brings_back_once, rotations_go_on}
use Rattle.bw_survival.proofs.laws.rotations_go_on.Goals as goal

pub returns-clause-rotations : goal.returns-clause-rotations
returns-clause-rotations c = rotations_go_on

pub returns-clause-once : goal.returns-clause-once
returns-clause-once c = brings_back_once
