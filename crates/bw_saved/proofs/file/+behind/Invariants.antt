use Rattle.std.proofs.Common.{length}
use Rattle.bw_saved.proofs.file.+behind.Given as goal

abbrev pub decreases-behind : goal.decreases-behind
decreases-behind l = length l.prefix.now
