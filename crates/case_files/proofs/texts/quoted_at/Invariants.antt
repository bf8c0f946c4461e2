use Rattle.std.proofs.Common.{◌≤◌, length}
use Rattle.case_files.proofs.texts.quoted_at.Given as goal

abbrev pub invariant-quoted : goal.invariant-quoted
invariant-quoted l = length l.rest ≤ length l.quoted

abbrev pub decreases-quoted : goal.decreases-quoted
decreases-quoted l = length l.rest
