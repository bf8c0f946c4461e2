use Rattle.std.proofs.Common.{◌≡◌, take, map}
use Rattle.bw_lang.specs.Text.Lexemes.{lexeme}
use Rattle.bw_syntax.proofs.lexemes.lexemes_of.Given as goal

abbrev pub invariant-loop-token : goal.invariant-loop-token
invariant-loop-token l = l.list.items ≡ map (lexeme l.bytes) (take l.token-index l.tokens)
