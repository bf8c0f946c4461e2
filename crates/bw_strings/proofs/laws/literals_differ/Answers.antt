use Rattle.bw_strings.proofs.Differing.{differ}
use Rattle.bw_strings.proofs.laws.literals_differ.Goals as goal

pub returns : goal.returns
returns c = differ
