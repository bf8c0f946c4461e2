use Rattle.bw_check.specs.Accepts.{IsCheckFault}
use Rattle.bw_check.proofs.Accepting.{accepted_by, handed_on, not_empty}
use Rattle.bw_check.proofs.checking.judged.Goals as goal

pub returns-in_err-found-clause-fault : goal.returns-in_err-found-clause-fault
returns-in_err-found-clause-fault g c =
    handed_on c.from_residual.result c.in_err-found.field-0.0 (IsCheckFault c.args.typed.now.service c.args.schema.now) c.from_residual.ensures.1
    c.in_err-found.ensures.fault

pub returns-clause-accepted : goal.returns-clause-accepted
returns-clause-accepted g c =
    let found = c.in_ok-found.ensures.found in (
      found.flow_is,
      accepted_by c.args.typed.now.service c.args.schema.now c.in_ok-found.found.facts c.in_ok-found.found.faults c.len.result found.limits
          found.facts_are found.faults_are c.len.ensures c.if-len-gt0.false,
    )

pub returns-then-len-gt0-clause-fault : goal.returns-then-len-gt0-clause-fault
returns-then-len-gt0-clause-fault g c =
    let found = c.in_ok-found.ensures.found in (
      found.limits,
      not_empty c.in_ok-found.found.faults c.len.result c.len.ensures c.if-len-gt0.true,
      (c.in_ok-found.found.facts, found.facts_are, found.faults_are),
    )
