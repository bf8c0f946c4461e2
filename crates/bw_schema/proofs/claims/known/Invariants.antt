use Rattle.std.proofs.Common.{◌≡◌, drop}
use Rattle.bw_schema.specs.Steps.Judging.{marks_of}
use Rattle.bw_schema.specs.Marks.{first_missing}
use Rattle.bw_schema.proofs.claims.known.Given as goal

abbrev pub invariant-loop-mark : goal.invariant-loop-mark
invariant-loop-mark l = first_missing l.there (marks_of l.marks) ≡ first_missing l.there (marks_of (drop l.mark-index l.marks))
