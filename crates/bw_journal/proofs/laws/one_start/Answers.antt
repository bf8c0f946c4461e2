use Rattle.bw_journal.proofs.Starting.{starts_once}
use Rattle.bw_journal.proofs.laws.one_start.Goals as goal

pub returns : goal.returns
returns c = starts_once
