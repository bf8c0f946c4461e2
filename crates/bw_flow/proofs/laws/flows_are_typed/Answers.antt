use Rattle.bw_flow.proofs.laws.flows_are_typed.Goals as goal
use Rattle.bw_flow.proofs.Given.{flows_are_typed}
use Rattle.bw_flow.proofs.Scoped.{typed_is_scoped}

pub returns-clause-flow : goal.returns-clause-flow
returns-clause-flow c = flows_are_typed

pub returns-clause-names : goal.returns-clause-names
returns-clause-names c = typed_is_scoped
