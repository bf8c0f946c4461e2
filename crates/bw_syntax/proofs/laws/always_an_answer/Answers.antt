use Rattle.bw_syntax.proofs.Answered.{always}
use Rattle.bw_syntax.proofs.laws.always_an_answer.Goals as goal

pub returns : goal.returns
returns c = always
