use Rattle.bw_typed.proofs.OneKind.{kind_is_one, kinds_agree, sessions_are_typed, kinds_are_met}
use Rattle.bw_typed.proofs.laws.kind_is_one.Goals as goal

pub returns-clause-one : goal.returns-clause-one
returns-clause-one c = kind_is_one

pub returns-clause-agree : goal.returns-clause-agree
returns-clause-agree c = kinds_agree

pub returns-clause-typed : goal.returns-clause-typed
returns-clause-typed c = sessions_are_typed

pub returns-clause-met : goal.returns-clause-met
returns-clause-met c = kinds_are_met
