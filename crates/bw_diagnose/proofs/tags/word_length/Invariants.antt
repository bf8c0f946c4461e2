use Rattle.std.proofs.Common.{◌≡◌, ◌+◌, drop}
use Rattle.bw_diagnose.specs.Places.{word_length}
use Rattle.bw_diagnose.proofs.tags.word_length.Given as goal

abbrev pub invariant-loop-index : goal.invariant-loop-index
invariant-loop-index l = l.index + word_length (drop l.index l.bytes) ≡ word_length l.bytes
