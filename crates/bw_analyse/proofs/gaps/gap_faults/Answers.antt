use Rattle.bw_analyse.proofs.GapLaws.{if_listed}
use Rattle.bw_analyse.proofs.gaps.gap_faults.Goals as goal

pub returns : goal.returns
returns c = if_listed c.args.typed.now.service c.args.facts.now c.faults_of.result c.faults_of.ensures
