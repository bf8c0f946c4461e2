use Rattle.bw_tmpl.proofs.Weights as weights
use Rattle.bw_tmpl.proofs.laws.items_bounded.Goals as goal

pub returns : goal.returns
returns c = record { weight = weights.items_bounded }
