use Rattle.std.proofs.Common.{◌≡◌, drop, slice_get}
use Rattle.bw_lang.specs.Service.Submissions.{values_of}
use Rattle.bw_lang.proofs.submission.Submission.value.Given as goal

abbrev pub invariant-loop-name : goal.invariant-loop-name
invariant-loop-name l = slice_get (values_of l.field (drop l.name-index l.name-items)) l.left ≡ slice_get (values_of l.field l.name-items) l.n
