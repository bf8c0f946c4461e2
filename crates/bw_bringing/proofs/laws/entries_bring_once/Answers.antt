use Rattle.bw_bringing.proofs.Bringing.{brings_once}
use Rattle.bw_bringing.proofs.laws.entries_bring_once.Goals as goal

pub returns : goal.returns
returns c = brings_once
