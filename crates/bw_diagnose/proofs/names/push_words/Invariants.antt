use Rattle.std.proofs.Common.{◌≡◌, ◌++◌, drop}
use Rattle.bw_diagnose.proofs.names.push_words.Given as goal

abbrev pub invariant-loop-word : goal.invariant-loop-word
invariant-loop-word l = l.names.items ++ drop l.word-index l.word-items ≡ l.initial.names.items ++ l.words
