use Rattle.std.proofs.Common.{◌≡◌, ◌≤◌, drop, max}
use Rattle.bw_lang.specs.Text.Brackets.{deepest}
use Rattle.bw_limits.proofs.brackets.deepest.Given as goal

abbrev pub invariant-loop-lexeme : goal.invariant-loop-lexeme
invariant-loop-lexeme l = record {
  within : l.depth ≤ l.lexeme-index;
  rest : max l.deepest (deepest l.depth (drop l.lexeme-index l.lexemes)) ≡ deepest 0 l.lexemes;
}
