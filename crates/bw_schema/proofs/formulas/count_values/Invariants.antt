use Rattle.std.proofs.Common.{◌≡◌, ◌+◌, drop}
use Rattle.bw_schema.specs.Steps.Reading.{count_values}
use Rattle.bw_schema.proofs.formulas.count_values.Given as goal

abbrev pub invariant-loop-word : goal.invariant-loop-word
invariant-loop-word l = record {
  at : l.n ≡ l.word-index;
  found : count_values l.words ≡ l.word-index + count_values (drop l.word-index l.words);
}
