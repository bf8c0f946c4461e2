use Rattle.std.proofs.Common.{◌≡◌, ◌≤◌, drop, find}
use Rattle.std.specs.Prelude.{nat_lt}
use Rattle.bw_lang.specs.Text.Brackets.{stretches}
use Rattle.bw_limits.proofs.brackets.long_stretch.Given as goal

abbrev pub invariant-loop-lexeme : goal.invariant-loop-lexeme
invariant-loop-lexeme l = record {
  within : l.length ≤ l.lexeme-index;
  rest : find (nat_lt 500) (stretches l.length (drop l.lexeme-index l.lexemes)) ≡ find (nat_lt 500) (stretches 0 l.lexemes);
}
