use Rattle.std.specs.Prelude.{codes}
use Rattle.std.proofs.Common.{◌≡◌, ◌++◌, map, take}
use Rattle.bw_questions.specs.Lines.{shown}
use Rattle.bw_questions.proofs.lines.field_line.Given as goal

abbrev pub invariant-loop-byte : goal.invariant-loop-byte
invariant-loop-byte l = l.line.items ≡ codes "type field kinds " ++ map shown (take l.byte-index l.field)
