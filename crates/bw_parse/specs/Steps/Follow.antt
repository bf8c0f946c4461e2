-- How tightly what follows binds what stands in front of it.
-- It only follows the steps of the code: nothing is promised by it.
use Rattle.std.specs.Prelude.{ℕ, if◌then◌else◌, List, [], ◌∷◌, Option, Some, None, codes}
use Rattle.bw_lang.specs.declared.expr.Op.{Op}
use Rattle.bw_lang.specs.Text.Keywords.{is}
use Rattle.bw_lang.specs.Text.Levels.{op_level}
use Rattle.bw_lang.specs.declared.token.Lexeme.{Lexeme}
use Rattle.bw_lang.specs.declared.token.Lexeme.TheVariants as lex
use Rattle.bw_parse.specs.Steps.Fronts.{op_of}

abbrev pub op_binds : Option Op → ℕ → ℕ
op_binds None n = n
op_binds (Some op) n = op_level op

-- the level of an operator at the front, 8 for a plug, and 0 for all else and for the end
abbrev pub binds : List Lexeme → ℕ
binds [] = 0
binds (lex.Sign s ∷ ts) = op_binds (op_of s) (if is s (codes "<[") then 8 else 0)
binds (t ∷ ts) = 0
