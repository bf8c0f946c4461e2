-- What follows the front of lexemes is among them.
use Rattle.std.proofs.Common.{ℕ, ◌≤◌, List, [], ◌∷◌, length, codes}
use Rattle.std.specs.Prelude.{⊤}
use Rattle.bw_lang.specs.declared.declaration.Draft.{Draft}
use Rattle.bw_lang.specs.declared.declaration.Draft.TheVariants as drafts
use Rattle.bw_lang.specs.declared.declaration.Written.{Written}
use Rattle.bw_lang.specs.declared.declaration.Written.TheVariants as written
use Rattle.bw_lang.specs.declared.stmt.Receive.{Receive}
use Rattle.bw_lang.specs.declared.token.Lexeme.{Lexeme}
use Rattle.bw_lang.specs.declared.token.Lexeme.TheVariants as lex
use Rattle.bw_lang.specs.Service.Code.{Code, done, declare, assign, if_then, if_else, while_loop, block, for_each, show, exit}
use Rattle.bw_lang.specs.Service.Drafts.{spell_literal, spell_draft}
use Rattle.bw_lang.specs.Text.Spelling.{spell, spell_pairs, spell_each, spell_receives, spell_test, spell_code}
use Rattle.bw_lang.specs.Service.Term.{Term, int, truth, string, name, paren, not, neg, binary, call, plug, nothing, Fillings, no_more, filling}

-- a template's inside has at most so many bytes
abbrev pub Fits : ℕ → Lexeme → Type 0
Fits most (lex.Template t) = length t ≤ most
Fits most l = ⊤

abbrev pub AllFit : ℕ → List Lexeme → Type 0
AllFit most [] = ⊤
AllFit most (l ∷ ls) = Fits most l × AllFit most ls

-- ---- what follows fits too

mutual
  term_rest : (most : ℕ) (e : Term) (k : List Lexeme) → AllFit most (spell e k) → AllFit most k
  term_rest most (int n) k h = h.1
  term_rest most (truth b) k h = h.1
  term_rest most (string s) k h = h.1
  term_rest most (name w) k h = h.1
  term_rest most nothing k h = h.1
  term_rest most (paren e) k h = (term_rest most e (lex.Sign (codes ")") ∷ k) h.1).1
  term_rest most (not e) k h = term_rest most e k h.1
  term_rest most (neg e) k h = term_rest most e k h.1
  term_rest most (binary op l r) k h = term_rest most r k (term_rest most l _ h).1
  term_rest most (call f e) k h = (term_rest most e (lex.Sign (codes ")") ∷ k) h.1.1).1
  term_rest most (plug b ps) k h = (pairs_rest most (codes "<[") ps (lex.Sign (codes "]") ∷ k) (term_rest most b _ h)).1

  pairs_rest : (most : ℕ) (s : List ℕ) (ps : Fillings) (k : List Lexeme) → AllFit most (spell_pairs s ps k) → AllFit most k
  pairs_rest most s no_more k h = h
  pairs_rest most s (filling w e ps) k h = pairs_rest most (codes ",") ps k (term_rest most e _ h.1.1.1)

each_rest : (most : ℕ) (s : List ℕ) (rs : List Receive) (k : List Lexeme) → AllFit most (spell_each s rs k) → AllFit most k
each_rest most s [] k h = h
each_rest most s (r ∷ rs) k h = each_rest most (codes ",") rs k h.1.1.1.1

receives_rest : (most : ℕ) (rs : List Receive) (k : List Lexeme) → AllFit most (spell_receives rs k) → AllFit most k
receives_rest most [] k h = h
receives_rest most (r ∷ rs) k h = (each_rest most (codes "[") (r ∷ rs) (lex.Sign (codes "]") ∷ k) h.1).1

test_rest : (most : ℕ) (e : Term) (k : List Lexeme) → AllFit most (spell_test e k) → AllFit most k
test_rest most e k h = (term_rest most e (lex.Sign (codes ")") ∷ k) h.1).1

code_rest : (most : ℕ) (c : Code) (k : List Lexeme) → AllFit most (spell_code c k) → AllFit most k
code_rest most done k h = h
code_rest most (declare t w e r) k h = code_rest most r k (term_rest most e _ h.1.1.1).1
code_rest most (assign w e r) k h = code_rest most r k (term_rest most e _ h.1.1).1
code_rest most (if_then t y r) k h = code_rest most r k (code_rest most y _ (test_rest most t _ h.1).1).1
code_rest most (if_else t y n r) k h = code_rest most r k (code_rest most n _ (code_rest most y _ (test_rest most t _ h.1).1).1.1.1).1
code_rest most (while_loop t b r) k h = code_rest most r k (code_rest most b _ (test_rest most t _ h.1).1).1
code_rest most (for_each w e b r) k h = code_rest most r k (code_rest most b _ (term_rest most e _ h.1.1.1.1).1.1).1
code_rest most (block b r) k h = code_rest most r k (code_rest most b _ h.1).1
code_rest most (show p rs r) k h = code_rest most r k (receives_rest most rs _ (term_rest most p _ h.1)).1
code_rest most (exit p r) k h = code_rest most r k (term_rest most p _ h.1).1

literal_rest : (most : ℕ) (l : Written) (k : List Lexeme) → AllFit most (spell_literal l k) → AllFit most k
literal_rest most (written.Plus n) k h = h.1
literal_rest most (written.Minus n) k h = h.1.1
literal_rest most (written.Bool b) k h = h.1
literal_rest most (written.Str s) k h = h.1
literal_rest most (written.Name w) k h = h.1

pub draft_rest : (most : ℕ) (d : Draft) (k : List Lexeme) → AllFit most (spell_draft d k) → AllFit most k
draft_rest most (drafts.Template n inside) k h = h.1.1.1.1.1
draft_rest most (drafts.Shared t n init) k h = (literal_rest most init _ h.1.1.1.1).1
draft_rest most (drafts.Session s) k h = (code_rest most s.body _ h.1.1.1.1.1).1
