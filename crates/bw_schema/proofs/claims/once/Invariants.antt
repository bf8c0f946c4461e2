use Rattle.std.proofs.Common.{◌≡◌, [], take, drop}
use Rattle.bw_schema.specs.Steps.Judging.{marks_of}
use Rattle.bw_schema.specs.Marks.{AreSame, first_repeated}
use Rattle.bw_schema.proofs.claims.once.Given as goal

abbrev pub invariant-loop-mark : goal.invariant-loop-mark
invariant-loop-mark l = record {
  set : AreSame l.set (marks_of (take l.mark-index l.marks));
  rest : first_repeated [] (marks_of l.marks) ≡ first_repeated (marks_of (take l.mark-index l.marks)) (marks_of (drop l.mark-index l.marks));
}
