use Rattle.bw_survival.proofs.StreamsSurvive.{handled_bring, handled_fit}
use Rattle.bw_survival.proofs.laws.handled_bring.Goals as goal

pub returns : goal.returns
returns c = record { bring = handled_bring; fit = handled_fit }
