-- What stands at the front of lexemes.
-- It only follows the steps of the code: nothing is promised by it.
use Rattle.std.specs.Prelude.{ℕ, Bool, true, false, ◌==◌, if◌then◌else◌, List, [], ◌∷◌, Option, Some, None, codes}
use Rattle.bw_lang.specs.declared.expr.Fun.TheVariants as funs
use Rattle.bw_lang.specs.declared.expr.Op.{Op}
use Rattle.bw_lang.specs.declared.expr.Op.TheVariants as ops
use Rattle.bw_lang.specs.declared.stmt.Kind.{Kind}
use Rattle.bw_lang.specs.declared.stmt.Kind.TheVariants as kinds
use Rattle.bw_lang.specs.Text.Keywords.{is, is_keyword}
use Rattle.bw_lang.specs.Text.Levels.{op_level}
use Rattle.bw_lang.specs.Table.Options.{◌>>=◌}
use Rattle.bw_lang.specs.declared.token.Lexeme.{Lexeme}
use Rattle.bw_lang.specs.declared.token.Lexeme.TheVariants as lex
use Rattle.bw_parse.specs.declared.lexemes.Meaning.{Meaning}
use Rattle.bw_parse.specs.declared.lexemes.Meaning.TheVariants.{Truth, Function, Nothing, Other, Free}

-- what was read at the front, and what follows it
abbrev pub Read : Type 0 → Type 0
Read A = Option (A × List Lexeme)

-- what follows this sign
unfoldable pub behind : List ℕ → List Lexeme → Option (List Lexeme)
behind s [] = None
behind s (lex.Sign t ∷ ts) = if is t s then Some ts else None
behind s (t ∷ ts) = None

-- what follows this word
unfoldable pub keyword : List ℕ → List Lexeme → Option (List Lexeme)
keyword v [] = None
keyword v (lex.Word w ∷ ts) = if is w v then Some ts else None
keyword v (t ∷ ts) = None

-- a word
unfoldable pub word : List Lexeme → Read (List ℕ)
word [] = None
word (lex.Word w ∷ ts) = Some (w, ts)
word (t ∷ ts) = None

-- a word that is no keyword
unfoldable pub named : List Lexeme → Read (List ℕ)
named ts = word ts >>= λ w. if is_keyword w.0 then None else Some w

-- the operator that a sign is
abbrev pub op_of : List ℕ → Option Op
op_of s =
    if is s (codes "||") then Some ops.Or else if is s (codes "&&") then Some ops.And
    else if is s (codes "==") then Some ops.Eq else if is s (codes "!=") then Some ops.Ne
    else if is s (codes "<") then Some ops.Lt else if is s (codes "<=") then Some ops.Le
    else if is s (codes ">") then Some ops.Gt else if is s (codes ">=") then Some ops.Ge
    else if is s (codes "+") then Some ops.Add else if is s (codes "-") then Some ops.Sub
    else if is s (codes "*") then Some ops.Mul else if is s (codes "/") then Some ops.Div
    else if is s (codes "%") then Some ops.Rem else None

abbrev pub if_level : ℕ → List Lexeme → Op → Read Op
if_level n ts op = if op_level op == n then Some (op, ts) else None

-- an operator of this level
unfoldable pub operator : ℕ → List Lexeme → Read Op
operator n [] = None
operator n (lex.Sign s ∷ ts) = op_of s >>= if_level n ts
operator n (t ∷ ts) = None

-- what a word means where an expression may stand
unfoldable pub meaning : List ℕ → Meaning
meaning w =
    if is w (codes "true") then Truth true
    else if is w (codes "false") then Truth false
    else if is w (codes "text") then Function funs.Text
    else if is w (codes "number") then Function funs.Number
    else if is w (codes "isnumber") then Function funs.IsNumber
    else if is w (codes "count") then Function funs.Count
    else if is w (codes "none") then Nothing
    else if is_keyword w then Other
    else Free

-- the kind that a word stands for
abbrev pub kind_of : List ℕ → Option Kind
kind_of w =
    if is w (codes "int") then Some kinds.Int
    else if is w (codes "bool") then Some kinds.Bool
    else if is w (codes "string") then Some kinds.Str
    else if is w (codes "html") then Some kinds.Html
    else if is w (codes "strings") then Some kinds.Strs
    else None

-- a kind
unfoldable pub kind : List Lexeme → Read Kind
kind ts = word ts >>= λ w. kind_of w.0 >>= λ t. Some (t, w.1)

abbrev pub is_list : Kind → Bool
is_list kinds.Strs = true
is_list t = false

-- a kind that a shared variable may have
unfoldable pub shared_kind : List Lexeme → Read Kind
shared_kind ts = kind ts >>= λ t. if is_list t.0 then None else Some t
