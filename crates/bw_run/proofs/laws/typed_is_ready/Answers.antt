use Rattle.bw_run.proofs.Follow.Kept.{typed_is_ready}
use Rattle.bw_run.proofs.laws.typed_is_ready.Goals as goal

pub returns : goal.returns
returns c = typed_is_ready
