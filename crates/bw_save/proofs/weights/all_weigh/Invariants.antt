use Rattle.std.proofs.Common.{◌≡◌, take}
use Rattle.std.specs.Prelude.{sum_by}
use Rattle.bw_saved.specs.Sessions.Weights.{session_weight}
use Rattle.bw_save.proofs.weights.all_weigh.Given as goal

abbrev pub invariant-loop-record : goal.invariant-loop-record
invariant-loop-record l = l.total ≡ sum_by session_weight (take l.record-index l.records)
