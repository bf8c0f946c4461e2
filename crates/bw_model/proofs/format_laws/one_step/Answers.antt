use Rattle.bw_model.proofs.format_laws.one_step.Goals as goal
use Rattle.bw_model.proofs.Cases.{some_step, one_step, without_formats}

pub returns-clause-some : goal.returns-clause-some
returns-clause-some c = some_step

pub returns-clause-one : goal.returns-clause-one
returns-clause-one c = one_step

pub returns-clause-none : goal.returns-clause-none
returns-clause-none c = without_formats
