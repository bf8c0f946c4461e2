use Rattle.bw_visit.proofs.Scripts.{scripts_are_one}
use Rattle.bw_visit.proofs.laws.one_script.Goals as goal

pub returns : goal.returns
returns c = scripts_are_one
