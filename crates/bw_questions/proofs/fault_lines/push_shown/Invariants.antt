use Rattle.std.proofs.Common.{◌≡◌, ◌++◌, map, take}
use Rattle.bw_questions.specs.Lines.{shown}
use Rattle.bw_questions.proofs.fault_lines.push_shown.Given as goal

abbrev pub invariant-loop-byte : goal.invariant-loop-byte
invariant-loop-byte l = l.text.items ≡ l.fn.text.items ++ map shown (take l.byte-index l.name)
