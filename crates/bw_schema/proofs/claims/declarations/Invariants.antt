use Rattle.std.proofs.Common.{◌≡◌, ◌≤◌, ◌++◌, drop}
use Rattle.bw_schema.specs.Marks as spec
use Rattle.bw_schema.proofs.claims.declarations.Given as goal

abbrev pub invariant-loop-line : goal.invariant-loop-line
invariant-loop-line l = record {
  rule : l.rule ≤ l.line-index;
  marks : l.marks ++ spec.each_line spec.declared_by l.rule (drop l.line-index l.lines) ≡ spec.declarations l.lines;
}
