use Rattle.bw_survival.proofs.LinksBring.{answered_bring, answered_fit}
use Rattle.bw_survival.proofs.laws.answered_bring.Goals as goal

pub returns : goal.returns
returns c = record { bring = answered_bring; fit = answered_fit }
