use Rattle.std.proofs.Common.{◌≡◌, take}
use Rattle.bw_run.specs.Follow.Runs.{rests_weight}
use Rattle.bw_run.proofs.rests.Rests.weight.Given as goal

abbrev pub invariant-loop-rest : goal.invariant-loop-rest
invariant-loop-rest l = l.total ≡ rests_weight (take l.rest-index l.rest-items)
