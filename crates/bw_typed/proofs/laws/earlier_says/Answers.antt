use Rattle.bw_typed.proofs.Earlier.{earlier_gap_says, earlier_field_says}
use Rattle.bw_typed.proofs.laws.earlier_says.Goals as goal

pub returns-clause-gap : goal.returns-clause-gap
returns-clause-gap c = earlier_gap_says

pub returns-clause-field : goal.returns-clause-field
returns-clause-field c = earlier_field_says
