use Rattle.std.proofs.Common.{◌≡◌, ◌++◌, drop}
use Rattle.bw_agent.specs.Filled as spec
use Rattle.bw_agent.proofs.filling.filled.Given as goal

abbrev pub invariant-loop-control : goal.invariant-loop-control
invariant-loop-control l = l.pairs ++ spec.pairs_from l.answers l.all l.seen (drop l.control-index l.all) ≡ spec.filled l.all l.answers
