-- What the parser gives for expressions. The number at the front bounds its steps.
-- It only follows the steps of the code: nothing is promised by it.
use Rattle.std.specs.Prelude.{ℕ, zero, suc, pos, ◌+◌, ◌*◌, nat_lt, ◌==◌, if◌then◌else◌, List, [], ◌∷◌, length, Some, None, codes}
use Rattle.bw_lang.specs.declared.token.Lexeme.{Lexeme}
use Rattle.bw_lang.specs.declared.token.Lexeme.TheVariants as lex
use Rattle.bw_lang.specs.Text.Levels.{left_level}
use Rattle.bw_lang.specs.Service.Term.{Term, int, truth, string, name, paren, not, neg, binary, call, plug, nothing, Fillings, no_more, filling}
use Rattle.bw_lang.specs.Service.Term.{append_fillings}
use Rattle.bw_parse.specs.declared.lexemes.Meaning.{Meaning}
use Rattle.bw_parse.specs.declared.lexemes.Meaning.TheVariants.{Truth, Function, Nothing, Other, Free}
use Rattle.bw_lang.specs.Table.Options.{◌>>=◌, where_some}
use Rattle.bw_parse.specs.Steps.Fronts.{Read, behind, word, operator, meaning}

-- a number that a text may have
abbrev pub number_at : ℕ → List Lexeme → Read Term
number_at n ts = if nat_lt n 9223372036854775808 then Some (int (pos n), ts) else None

unfoldable mutual
  -- an expression of the level, of 1 to 8, or of a tighter one
  pub expr : ℕ → ℕ → List Lexeme → Read Term
  expr zero n ts = None
  expr (suc f) n ts =
      if nat_lt n 7 then (expr f (n + 1) ts >>= λ x. more f n x.0 x.1)
      else if n == 7 then prefix f ts
      else (atom f ts >>= λ x. plugs f x.0 x.1)

  -- the operators of the level and their right operands
  pub more : ℕ → ℕ → Term → List Lexeme → Read Term
  more zero n left ts = None
  more (suc f) n left ts =
      where_some (operator n ts)
      (λ o. expr f (n + 1) o.1 >>= λ x. if left_level n == n then more f n (binary o.0 left x.0) x.1 else Some (binary o.0 left x.0, x.1))
      (Some (left, ts))

  pub prefix : ℕ → List Lexeme → Read Term
  prefix zero ts = None
  prefix (suc f) ts =
      where_some (behind (codes "!") ts) (λ k. expr f 7 k >>= λ x. Some (not x.0, x.1))
      (where_some (behind (codes "-") ts) (λ k. expr f 7 k >>= λ x. Some (neg x.0, x.1)) (expr f 8 ts))

  pub plugs : ℕ → Term → List Lexeme → Read Term
  plugs zero base ts = None
  plugs (suc f) base ts =
      where_some (behind (codes "<[") ts)
      (λ k. pairs f no_more k >>= λ ps. behind (codes "]") ps.1 >>= λ r. plugs f (plug base ps.0) r)
      (Some (base, ts))

  -- pairs with commas between them, behind those of front
  pub pairs : ℕ → Fillings → List Lexeme → Read Fillings
  pairs zero front ts = None
  pairs (suc f) front ts =
      word ts >>= λ w. behind (codes "=") w.1 >>= λ k. expr f 1 k >>= λ x.
      let all : Fillings = append_fillings front (filling w.0 x.0 no_more) in
      where_some (behind (codes ",") x.1) (λ r. pairs f all r) (Some (all, x.1))

  pub atom : ℕ → List Lexeme → Read Term
  atom zero ts = None
  atom (suc f) [] = None
  atom (suc f) (lex.Number n ∷ ts) = number_at n ts
  atom (suc f) (lex.Str s ∷ ts) = Some (string s, ts)
  atom (suc f) (lex.Template t ∷ ts) = None
  atom (suc f) (lex.Sign s ∷ ts) = behind (codes "(") (lex.Sign s ∷ ts) >>= λ k. inside f k >>= λ x. Some (paren x.0, x.1)
  atom (suc f) (lex.Word w ∷ ts) = by_meaning f w (meaning w) ts

  -- an expression and the closing parenthesis
  pub inside : ℕ → List Lexeme → Read Term
  inside zero ts = None
  inside (suc f) ts = expr f 1 ts >>= λ x. behind (codes ")") x.1 >>= λ r. Some (x.0, r)

  -- what a word of this meaning begins
  pub by_meaning : ℕ → List ℕ → Meaning → List Lexeme → Read Term
  by_meaning zero w m ts = None
  by_meaning (suc f) w (Truth b) ts = Some (truth b, ts)
  by_meaning (suc f) w (Function g) ts = behind (codes "(") ts >>= λ k. inside f k >>= λ x. Some (call g x.0, x.1)
  by_meaning (suc f) w Nothing ts = Some (nothing, ts)
  by_meaning (suc f) w Other ts = None
  by_meaning (suc f) w Free ts = Some (name w, ts)

-- ---- the same with as many steps as can be needed

abbrev pub steps : List Lexeme → ℕ
steps ts = 20 * length ts + 20

unfoldable pub parse : ℕ → List Lexeme → Read Term
parse n ts = expr (steps ts) n ts

unfoldable pub parse_more : ℕ → Term → List Lexeme → Read Term
parse_more n left ts = more (steps ts) n left ts

unfoldable pub parse_prefix : List Lexeme → Read Term
parse_prefix ts = prefix (steps ts) ts

unfoldable pub parse_plugs : Term → List Lexeme → Read Term
parse_plugs base ts = plugs (steps ts) base ts

unfoldable pub parse_pairs : Fillings → List Lexeme → Read Fillings
parse_pairs front ts = pairs (steps ts) front ts

unfoldable pub parse_atom : List Lexeme → Read Term
parse_atom ts = atom (steps ts) ts

unfoldable pub parse_inside : List Lexeme → Read Term
parse_inside ts = inside (steps ts) ts

unfoldable pub parse_word : List ℕ → Meaning → List Lexeme → Read Term
parse_word w m ts = by_meaning (steps ts) w m ts
