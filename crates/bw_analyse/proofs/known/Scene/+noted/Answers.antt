use Rattle.std.proofs.Common.{arith}
use Rattle.std.proofs.lemmas.Grind.{common_steps}
use Rattle.bw_analyse.proofs.Walks.{pair_size_at_read}
use Rattle.bw_analyse.proofs.known.Scene.+noted.Goals as goal

pub noted_pairs-noted-requires : goal.noted_pairs-noted-requires
noted_pairs-noted-requires t c = (grind (arith, common_steps, pair_size_at_read), tt)
