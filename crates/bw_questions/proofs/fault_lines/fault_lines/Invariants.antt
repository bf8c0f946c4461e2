use Rattle.std.proofs.Common.{◌≡◌, take}
use Rattle.bw_questions.specs.Behind.{behind_marks}
use Rattle.bw_questions.specs.FaultLines.{fault_lines}
use Rattle.bw_questions.proofs.fault_lines.fault_lines.Given as goal

abbrev pub invariant-loop-fault : goal.invariant-loop-fault
invariant-loop-fault l = l.text.items ≡ fault_lines (behind_marks l.sight) l.names (take l.fault-index l.fault-items)
