-- What is written in a text is no longer than the text.
use Rattle.std.proofs.Common.{◌≡◌, ℕ, ◌+◌, ◌≤◌, ◌<◌, ◌^◌, List, [], ◌∷◌, ◌++◌, length, drop, map, sym, ap, subst, arith, codes, length-append, length-take}
use Rattle.std.specs.Prelude.{◌-◌}
use Rattle.std.specs.List.{slice_range}
use Rattle.std.proofs.lemmas.List.{length-drop}
use Rattle.bw_lang.specs.declared.declaration.Draft.{Draft}
use Rattle.bw_lang.specs.declared.declaration.Draft.TheVariants as drafts
use Rattle.bw_lang.specs.declared.token.Lexeme.{Lexeme}
use Rattle.bw_lang.specs.declared.token.Lexeme.TheVariants as lex
use Rattle.bw_lang.specs.declared.token.Token.{Token}
use Rattle.bw_lang.specs.declared.token.TokenKind.{TokenKind}
use Rattle.bw_lang.specs.declared.token.TokenKind.TheVariants as kinds
use Rattle.bw_lang.specs.Service.Code.{Code, done, declare, assign, if_then, if_else, while_loop, block, for_each, show, exit}
use Rattle.bw_lang.specs.Service.CodeNames.{local_names}
use Rattle.bw_lang.specs.Service.Drafts.{spell_draft, spell_drafts, spell_service}
use Rattle.bw_lang.specs.Text.Lexemes.{lexeme, lexeme_of}
use Rattle.bw_lang.specs.Service.Reads.{IsText}
use Rattle.bw_lang.specs.Text.Spelling.{spell_code}
use Rattle.bw_parse.proofs.CodeSteps.{code_longer}
use Rattle.bw_parse.proofs.Drafts.{draft_longer}
use Rattle.bw_parse.proofs.Shorter.{longer}
use Rattle.bw_syntax.specs.Steps.Stages.{IsBounded, AreBounded}
use Rattle.bw_syntax.proofs.Rests.{Fits, AllFit, draft_rest}

-- ---- templates

range_within : (bytes : List ℕ) (i j : ℕ) → length (slice_range bytes i j) ≤ length bytes
range_within bytes i j = omega (arith, length-take (j - i) (drop i bytes), length-drop i bytes)

token_fits : (kind : TokenKind) (bytes : List ℕ) (i j most : ℕ) → length bytes ≤ most → Fits most (lexeme_of kind bytes i j)
token_fits kinds.Word bytes i j most h = tt
token_fits (kinds.Number n) bytes i j most h = tt
token_fits (kinds.Str s) bytes i j most h = tt
token_fits kinds.Template bytes i j most h = omega (arith, range_within bytes (i + 6) (j - 7))
token_fits kinds.Sign bytes i j most h = tt

tokens_fit : (bytes : List ℕ) (tokens : List Token) (most : ℕ) → length bytes ≤ most → AllFit most (map (lexeme bytes) tokens)
tokens_fit bytes [] most h = tt
tokens_fit bytes (t ∷ tokens) most h = (token_fits t.what bytes t.start t.end most h, tokens_fit bytes tokens most h)

pub text_fits : (bytes : List ℕ) (ls : List Lexeme) → IsText bytes ls → AllFit 1048576 ls
text_fits bytes ls t = subst (AllFit 1048576) (sym t.says) (tokens_fit bytes t.tokens 1048576 t.short)

-- ---- locals

-- a local takes tokens of its own
locals_within : (c : Code) (k : List Lexeme) → length (local_names c) + length k ≤ length (spell_code c k)
locals_within done k = omega arith
locals_within (declare t w e r) k = omega (arith, longer e (lex.Sign (codes ";") ∷ spell_code r k), locals_within r k)
locals_within (assign w e r) k = omega (arith, longer e (lex.Sign (codes ";") ∷ spell_code r k), locals_within r k)
locals_within (if_then t y r) k =
    let a = lex.Sign (codes "}") ∷ spell_code r k in
    omega (
      arith,
      length-append (local_names y) (local_names r),
      longer t (lex.Sign (codes ")") ∷ lex.Sign (codes "{") ∷ spell_code y a),
      locals_within y a,
      locals_within r k,
    )
locals_within (if_else t y n r) k =
    let b = lex.Sign (codes "}") ∷ spell_code r k in
    let a = lex.Sign (codes "}") ∷ lex.Word (codes "else") ∷ lex.Sign (codes "{") ∷ spell_code n b in
    omega (
      arith,
      length-append (local_names y) (local_names n ++ local_names r),
      length-append (local_names n) (local_names r),
      longer t (lex.Sign (codes ")") ∷ lex.Sign (codes "{") ∷ spell_code y a),
      locals_within y a,
      locals_within n b,
      locals_within r k,
    )
locals_within (while_loop t b r) k =
    let a = lex.Sign (codes "}") ∷ spell_code r k in
    omega (
      arith,
      length-append (local_names b) (local_names r),
      longer t (lex.Sign (codes ")") ∷ lex.Sign (codes "{") ∷ spell_code b a),
      locals_within b a,
      locals_within r k,
    )
locals_within (for_each w e b r) k =
    let a = lex.Sign (codes "}") ∷ spell_code r k in
    omega (
      arith,
      length-append (local_names b) (local_names r),
      longer e (lex.Sign (codes ")") ∷ lex.Sign (codes "{") ∷ spell_code b a),
      locals_within b a,
      locals_within r k,
    )
locals_within (block b r) k =
    let a = lex.Sign (codes "}") ∷ spell_code r k in omega (arith, length-append (local_names b) (local_names r), locals_within b a, locals_within r k)
locals_within (show p rs r) k = omega (arith, code_longer (show p rs r) k, code_longer (show p rs done) (spell_code r k), locals_within r k)
locals_within (exit p r) k = omega (arith, longer p (lex.Sign (codes ";") ∷ spell_code r k), locals_within r k)

-- ---- declarations

draft_bounded : (d : Draft) (k : List Lexeme) → AllFit 1048576 (spell_draft d k) → length (spell_draft d k) < 2 ^ 64 → IsBounded d
draft_bounded (drafts.Template name inside) k h l = h.1.1.1.0
draft_bounded (drafts.Shared t name init) k h l = tt
draft_bounded (drafts.Session s) k h l = omega (arith, locals_within s.body (lex.Sign (codes "}") ∷ k))

drafts_bounded : (ds : List Draft) (k : List Lexeme) → AllFit 1048576 (spell_drafts ds k) → length (spell_drafts ds k) < 2 ^ 64 → AreBounded ds
drafts_bounded [] k h l = tt
drafts_bounded (d ∷ ds) k h l = (
  draft_bounded d (spell_drafts ds k) h l,
  drafts_bounded ds k (draft_rest 1048576 d (spell_drafts ds k) h) (omega (arith, draft_longer d (spell_drafts ds k))),
)

pub service_bounded : (bytes : List ℕ) (ls : List Lexeme) (name : List ℕ) (ds : List Draft) → IsText bytes ls → ls ≡ spell_service name ds
    → length ls < 2 ^ 64 → AreBounded ds
service_bounded bytes ls name ds t e l =
    let fit = subst (AllFit 1048576) e (text_fits bytes ls t) in
    drafts_bounded ds _ fit.1.1.1 (omega (arith, ap length e))
