use Rattle.bw_tmpl.proofs.Inverse.{reads_once}
use Rattle.bw_tmpl.proofs.Spelled.{spelled_once}
use Rattle.bw_tmpl.proofs.laws.unique.Goals as goal

pub returns : goal.returns
returns c = record { pieces = spelled_once; items = reads_once }
