-- What follows is shorter: each thing that is parsed has tokens of its own.
use Rattle.std.proofs.Common.{◌≡◌, ℕ, ◌+◌, ◌<◌, ◌≤◌, List, ◌∷◌, length, Some}
use Rattle.std.proofs.Common.{ap, arith}
use Rattle.std.specs.Prelude.{codes}
use Rattle.bw_lang.specs.declared.expr.Op.{Op}
use Rattle.bw_lang.specs.declared.token.Lexeme.{Lexeme}
use Rattle.bw_lang.specs.declared.token.Lexeme.TheVariants as lex
use Rattle.bw_lang.specs.Text.Levels.{IsSome}
use Rattle.bw_lang.specs.Text.Spelling.{spell, spell_pairs}
use Rattle.bw_lang.specs.Service.Term.{Term, int, truth, string, name, paren, not, neg, binary, call, plug, nothing, Fillings, no_more, filling}
use Rattle.bw_lang.specs.Text.Words.{op_sign}
use Rattle.bw_parse.specs.Steps.Fronts.{behind, word, operator}
use Rattle.bw_parse.specs.Steps.Expressions.{expr, pairs, atom, inside}
use Rattle.bw_parse.proofs.FrontLaws.{behind_is, word_is, operator_is}
use Rattle.bw_parse.proofs.Sound.{sound_expr, sound_atom, sound_pairs, sound_inside}

-- ---- an expression has tokens of its own

mutual
  pub longer : (e : Term) (k : List Lexeme) → length k < length (spell e k)
  longer (int n) k = omega arith
  longer (truth b) k = omega arith
  longer (string s) k = omega arith
  longer (name w) k = omega arith
  longer (paren e) k = omega (arith, longer e (lex.Sign (codes ")") ∷ k))
  longer (not e) k = omega (arith, longer e k)
  longer (neg e) k = omega (arith, longer e k)
  longer (binary op l r) k = omega (arith, longer l (lex.Sign (op_sign op) ∷ spell r k), longer r k)
  longer (call f e) k = omega (arith, longer e (lex.Sign (codes ")") ∷ k))
  longer nothing k = omega arith
  longer (plug base ps) k =
      omega (arith, longer base (spell_pairs (codes "<[") ps (lex.Sign (codes "]") ∷ k)), pairs_longer (codes "<[") ps (lex.Sign (codes "]") ∷ k))

  pub pairs_longer : (s : List ℕ) (ps : Fillings) (k : List Lexeme) → length k ≤ length (spell_pairs s ps k)
  pairs_longer s no_more k = omega arith
  pairs_longer s (filling w e ps) k = omega (arith, longer e (spell_pairs (codes ",") ps k), pairs_longer (codes ",") ps k)

some_pairs : (s : List ℕ) (ps : Fillings) (k : List Lexeme) → IsSome ps → length k + 2 ≤ length (spell_pairs s ps k)
some_pairs s no_more k h = absurd h
some_pairs s (filling w e ps) k h = omega (arith, longer e (spell_pairs (codes ",") ps k), pairs_longer (codes ",") ps k)

pub expr_shorter : (f n : ℕ) (ts : List Lexeme) (x : Term × List Lexeme) → n ≤ 8 → expr f n ts ≡ Some x → length x.1 < length ts
expr_shorter f n ts x b e = omega (arith, longer x.0 x.1, ap length (sound_expr f n ts x b e).spelled)

pub atom_shorter : (f : ℕ) (ts : List Lexeme) (x : Term × List Lexeme) → atom f ts ≡ Some x → length x.1 < length ts
atom_shorter f ts x e = omega (arith, longer x.0 x.1, ap length (sound_atom f ts x e).spelled)

pub pairs_shorter : (f : ℕ) (front : Fillings) (ts : List Lexeme) (x : Fillings × List Lexeme) → pairs f front ts ≡ Some x → length x.1 < length ts
pairs_shorter f front ts x e =
    let r = sound_pairs f front ts x e in
    omega (arith, some_pairs (codes ",") r.rest x.1 r.some, ap length (r.spelled (codes ",")))

pub inside_shorter : (f : ℕ) (ts : List Lexeme) (x : Term × List Lexeme) → inside f ts ≡ Some x → length x.1 < length ts
inside_shorter f ts x e = let r = sound_inside f ts x e in omega (arith, longer x.0 (lex.Sign (codes ")") ∷ x.1), ap length r.0)

pub behind_shorter : (s : List ℕ) (ts k : List Lexeme) → behind s ts ≡ Some k → length k + 1 ≡ length ts
behind_shorter s ts k e = omega (arith, ap length (behind_is s ts k e))

pub word_shorter : (ts : List Lexeme) (x : List ℕ × List Lexeme) → word ts ≡ Some x → length x.1 + 1 ≡ length ts
word_shorter ts x e = omega (arith, ap length (word_is ts x e))

pub operator_shorter : (n : ℕ) (ts : List Lexeme) (x : Op × List Lexeme) → operator n ts ≡ Some x → length x.1 + 1 ≡ length ts
operator_shorter n ts x e = omega (arith, ap length (operator_is n ts x e).0)
