use Rattle.bw_sum.proofs.Opens.{opens_by_count}
use Rattle.bw_sum.proofs.ReadGaps.{read_gaps_are_known}
use Rattle.bw_sum.proofs.laws.gaps_are_known.Goals as goal

pub returns : goal.returns
returns c = record { opens = opens_by_count; read = read_gaps_are_known }
