-- Each token has a byte, and each declaration its tokens.
use Rattle.std.proofs.Common.{ℕ, ◌+◌, ◌≤◌, List, [], ◌∷◌, length, ap, arith}
use Rattle.std.specs.Prelude.{codes, sum_by}
use Rattle.std.specs.Coded.{le_prop}
use Rattle.std.proofs.lemmas.List.{length-append, length-map}
use Rattle.std.proofs.lemmas.List.Sums.{sum_by-cons}
use Rattle.std.proofs.Math.Logic.{∥∥₁_elim}
use Rattle.bw_lang.specs.declared.declaration.Declaration.{Declaration}
use Rattle.bw_lang.specs.declared.declaration.Draft.{Draft}
use Rattle.bw_lang.specs.declared.limits.TheConstants.{MAX_FILE_BYTES}
use Rattle.bw_lang.specs.declared.service.Service.{Service}
use Rattle.bw_lang.specs.declared.stmt.Receive.{Receive}
use Rattle.bw_lang.specs.declared.token.Lexeme.{Lexeme}
use Rattle.bw_lang.specs.declared.token.Lexeme.TheVariants as lex
use Rattle.bw_lang.specs.declared.token.Token.{Token}
use Rattle.bw_lang.specs.Service.Drafts.{spell_drafts}
use Rattle.bw_lang.specs.Service.Order.{declarations_of}
use Rattle.bw_lang.specs.Service.Reads.{Reads, AreRead}
use Rattle.bw_lang.specs.Service.Term.{Term, int, truth, string, name, paren, not, neg, binary, call, plug, nothing, Fillings, no_more, filling}
use Rattle.bw_lang.specs.Text.Cuts.{Cuts}
use Rattle.bw_lang.specs.Text.Cuts as cuts
use Rattle.bw_lang.specs.Text.Lexemes.{lexeme}
use Rattle.bw_lang.specs.Text.Spelling.{spell, spell_pairs, spell_each, spell_receives}
use Rattle.bw_lang.specs.Text.Words.{op_sign}
use Rattle.bw_lang.proofs.Small.{declarations_are}
use Rattle.bw_lex.proofs.Within.{form_has_bytes}
use Rattle.bw_typed.specs.Few.{IsWithinTokens, DeclaresFew}

-- ---- what follows an expression, and the fields that a show receives, is among the tokens

mutual
  pub behind_term : (e : Term) (k : List Lexeme) → length k ≤ length (spell e k)
  behind_term (int n) k = omega arith
  behind_term (truth b) k = omega arith
  behind_term (string s) k = omega arith
  behind_term (name w) k = omega arith
  behind_term (paren e) k = omega (arith, behind_term e (lex.Sign (codes ")") ∷ k))
  behind_term (not e) k = omega (arith, behind_term e k)
  behind_term (neg e) k = omega (arith, behind_term e k)
  behind_term (binary op l r) k = omega (arith, behind_term l (lex.Sign (op_sign op) ∷ spell r k), behind_term r k)
  behind_term (call f e) k = omega (arith, behind_term e (lex.Sign (codes ")") ∷ k))
  behind_term (plug b ps) k =
      let last = lex.Sign (codes "]") ∷ k in omega (arith, behind_term b (spell_pairs (codes "<[") ps last), behind_pairs (codes "<[") ps last)
  behind_term nothing k = omega arith

  behind_pairs : (s : List ℕ) (ps : Fillings) (k : List Lexeme) → length k ≤ length (spell_pairs s ps k)
  behind_pairs s no_more k = omega arith
  behind_pairs s (filling w e ps) k = omega (arith, behind_term e (spell_pairs (codes ",") ps k), behind_pairs (codes ",") ps k)

behind_each : (s : List ℕ) (rs : List Receive) (k : List Lexeme) → length k ≤ length (spell_each s rs k)
behind_each s [] k = omega arith
behind_each s (r ∷ rs) k = omega (arith, behind_each (codes ",") rs k)

pub behind_receives : (rs : List Receive) (k : List Lexeme) → length k ≤ length (spell_receives rs k)
behind_receives [] k = omega arith
behind_receives (r ∷ rs) k = omega (arith, behind_each (codes "[") (r ∷ rs) (lex.Sign (codes "]") ∷ k))

-- ---- a text has at least as many bytes as tokens

tokens_few : (at : ℕ) (bytes : List ℕ) (tokens : List Token) → Cuts at bytes tokens → length tokens ≤ length bytes
tokens_few at bytes tokens (cuts.nothing n) = omega arith
tokens_few at bytes tokens (cuts.gap n own rest ts form long others) = omega (arith, tokens_few _ rest ts others, length-append own rest)
tokens_few at bytes tokens (cuts.token n kind own rest ts form held long others) =
    omega (arith, tokens_few _ rest ts others, length-append own rest, form_has_bytes kind own form)

-- ---- declarations

module _ (size : Declaration → ℕ) (within : IsWithinTokens size) where
  drafts_few : (before : List (List ℕ)) (ds : List Draft) (rs : List Declaration) (after : List (List ℕ)) (k : List Lexeme) → AreRead before ds rs after
      → sum_by size rs + length k ≤ length (spell_drafts ds k)
  drafts_few before [] [] after k r = omega arith
  drafts_few before [] (d ∷ rs) after k r = absurd r
  drafts_few before (d ∷ ds) [] after k r = absurd r
  drafts_few before (d ∷ ds) (x ∷ rs) after k r =
      omega (arith, sum_by-cons size x rs, within before d x r.0 (spell_drafts ds k) r.1, drafts_few r.0 ds rs after k r.2)

  read_few : (bytes : List ℕ) (s : Service) → Reads bytes s → sum_by size (declarations_of s) ≤ MAX_FILE_BYTES
  read_few bytes s r =
      let text = r.drafted.text in
      omega (
        arith,
        ap (sum_by size) (declarations_are bytes s r),
        drafts_few [] r.drafts r.declarations s.gaps (lex.Sign (codes "}") ∷ []) r.read,
        ap length r.drafted.spelled,
        ap length text.says,
        length-map text.tokens (lexeme bytes),
        tokens_few 0 bytes text.tokens text.cut.1,
        text.short,
      )

pub declares_few : DeclaresFew
declares_few size within s h = ∥∥₁_elim h le_prop (λ r. read_few size within r.0 s r.1)
