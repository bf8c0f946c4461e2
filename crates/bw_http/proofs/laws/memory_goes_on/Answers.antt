use Rattle.bw_http.proofs.Due.{memory_goes_on}
use Rattle.bw_http.proofs.laws.memory_goes_on.Goals as goal

pub returns : goal.returns
returns c = memory_goes_on
