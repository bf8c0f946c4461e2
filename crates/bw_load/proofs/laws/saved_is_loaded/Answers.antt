use Rattle.bw_load.proofs.Again.{saved_is_loaded}
use Rattle.bw_load.proofs.laws.saved_is_loaded.Goals as goal

pub returns : goal.returns
returns c = saved_is_loaded
