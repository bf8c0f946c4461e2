use Rattle.bw_check.specs.Accepts.{HasNoList, IsCheckFault}
use Rattle.bw_check.proofs.Accepting.{handed_on}
use Rattle.bw_check.proofs.checking.find_faults.Goals as goal

pub returns-in_err-flow-clause-fault : goal.returns-in_err-flow-clause-fault
returns-in_err-flow-clause-fault g c =
    handed_on c.from_residual.result c.in_err-flow.field-0.0 (IsCheckFault c.args.typed.now.service c.args.schema.now) c.from_residual.ensures.1
    (c.in_err-flow.ensures.fault c.args.schema.now)

pub returns-in_err-flow-clause-limit : goal.returns-in_err-flow-clause-limit
returns-in_err-flow-clause-limit g c =
    handed_on c.from_residual.result c.in_err-flow.field-0.0 HasNoList c.from_residual.ensures.1 c.in_err-flow.ensures.limit

pub returns-in_err-facts-clause-fault : goal.returns-in_err-facts-clause-fault
returns-in_err-facts-clause-fault g c =
    handed_on c.from_residual-in_err-facts.result c.in_err-facts.field-0.0 (IsCheckFault c.args.typed.now.service c.args.schema.now)
    c.from_residual-in_err-facts.ensures.1 (c.in_err-facts.ensures.fault c.args.schema.now)

pub returns-in_err-facts-clause-limit : goal.returns-in_err-facts-clause-limit
returns-in_err-facts-clause-limit g c =
    handed_on c.from_residual-in_err-facts.result c.in_err-facts.field-0.0 HasNoList c.from_residual-in_err-facts.ensures.1 c.in_err-facts.ensures.limit

pub returns-clause-found : goal.returns-clause-found
returns-clause-found g c = record {
  limits = record { points = c.in_ok-flow.ensures.flow.1; members = c.in_ok-facts.ensures.within };
  flow_is = c.in_ok-flow.ensures.flow.0;
  facts_are = c.in_ok-facts.ensures.facts;
  faults_are = c.in_ok-faults.ensures;
}
