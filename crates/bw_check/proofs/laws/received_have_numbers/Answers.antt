use Rattle.bw_check.proofs.Within.Named.{received_have_numbers}
use Rattle.bw_check.proofs.laws.received_have_numbers.Goals as goal

pub returns : goal.returns
returns c = received_have_numbers c.args.typed.now
