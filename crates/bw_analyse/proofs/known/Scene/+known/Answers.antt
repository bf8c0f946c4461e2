use Rattle.std.proofs.Common.{arith}
use Rattle.std.proofs.lemmas.Grind.{common_steps}
use Rattle.bw_analyse.proofs.Walks.{pair_size_at_read}
use Rattle.bw_analyse.proofs.known.Scene.+known.Goals as goal

pub filled-known-requires : goal.filled-known-requires
filled-known-requires t c = (grind (arith, common_steps, pair_size_at_read), tt)
