use Rattle.bw_valid.proofs.BreachLaws.{valid_decided, breach_closed}
use Rattle.bw_valid.proofs.JoinedLaws.{breach_joined}
use Rattle.bw_valid.proofs.laws.validity.Goals as goal

pub returns : goal.returns
returns c = record { decided = valid_decided; closed = breach_closed; joined = breach_joined }
