use Rattle.bw_run.proofs.Follow.Whole.{turns_agree, going_on_agrees}
use Rattle.bw_run.proofs.laws.agrees.Goals as goal

pub returns-clause-turns : goal.returns-clause-turns
returns-clause-turns c = turns_agree

pub returns-clause-going_on : goal.returns-clause-going_on
returns-clause-going_on c = going_on_agrees
