use Rattle.bw_run.proofs.Follow.Kept.{turns_keep_kinds, going_on_keeps_kinds}
use Rattle.bw_run.proofs.Follow.ValueKinds.{values_have_kinds}
use Rattle.bw_run.proofs.laws.kinds_are_kept.Goals as goal

pub returns-clause-values : goal.returns-clause-values
returns-clause-values c = values_have_kinds

pub returns-clause-turns : goal.returns-clause-turns
returns-clause-turns c = turns_keep_kinds

pub returns-clause-going_on : goal.returns-clause-going_on
returns-clause-going_on c = going_on_keeps_kinds
