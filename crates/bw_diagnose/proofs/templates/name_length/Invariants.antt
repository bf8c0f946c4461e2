use Rattle.std.proofs.Common.{◌≡◌, ◌+◌, drop}
use Rattle.bw_diagnose.specs.Templates.{name_length}
use Rattle.bw_diagnose.proofs.templates.name_length.Given as goal

abbrev pub invariant-loop-index : goal.invariant-loop-index
invariant-loop-index l = l.index + name_length (drop l.index l.bytes) ≡ name_length l.bytes
