use Rattle.bw_check.proofs.Within.OneSolution.{facts_are_one}
use Rattle.bw_check.proofs.laws.facts_are_one.Goals as goal

pub returns : goal.returns
returns c = facts_are_one c.args.typed.now
