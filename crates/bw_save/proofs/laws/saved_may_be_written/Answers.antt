use Rattle.bw_save.proofs.Filling.{saved_may_be_written}
use Rattle.bw_save.proofs.laws.saved_may_be_written.Goals as goal

pub returns : goal.returns
returns c = saved_may_be_written
