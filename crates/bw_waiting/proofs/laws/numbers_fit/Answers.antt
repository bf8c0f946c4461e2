use Rattle.bw_waiting.proofs.NumbersKept.{numbers_stay}
use Rattle.bw_waiting.proofs.laws.numbers_fit.Goals as goal

pub returns : goal.returns
returns c = numbers_stay
