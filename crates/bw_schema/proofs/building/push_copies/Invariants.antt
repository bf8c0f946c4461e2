use Rattle.std.proofs.Common.{◌≡◌, ◌++◌, take}
use Rattle.bw_schema.proofs.building.push_copies.Given as goal

abbrev pub invariant-loop-word : goal.invariant-loop-word
invariant-loop-word l = l.words ≡ l.fn.words ++ take l.word-index l.word-items
