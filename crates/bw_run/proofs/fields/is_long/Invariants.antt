use Rattle.std.proofs.Common.{◌≡◌, drop}
use Rattle.bw_lang.specs.Service.Submissions.{values_of}
use Rattle.bw_run.specs.Missing.{is_long}
use Rattle.bw_run.proofs.fields.is_long.Given as goal

abbrev pub invariant-loop-name : goal.invariant-loop-name
invariant-loop-name l = is_long (values_of l.field l.name-items) ≡ is_long (values_of l.field (drop l.name-index l.name-items))
