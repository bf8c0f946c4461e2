use Rattle.bw_save.proofs.Again.{thawed_is_the_same}
use Rattle.bw_save.proofs.laws.thawed_is_the_same.Goals as goal

pub returns : goal.returns
returns c = thawed_is_the_same
