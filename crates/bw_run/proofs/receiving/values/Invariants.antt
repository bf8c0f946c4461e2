use Rattle.std.proofs.Common.{◌≡◌, take}
use Rattle.bw_lang.specs.Service.Submissions.{values_of}
use Rattle.bw_run.proofs.receiving.values.Given as goal

abbrev pub invariant-loop-name : goal.invariant-loop-name
invariant-loop-name l = l.values ≡ values_of l.field (take l.name-index l.name-items)
