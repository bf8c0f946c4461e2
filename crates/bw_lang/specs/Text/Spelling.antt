-- Which tokens expressions and statements are written with. The last argument is what follows.
use Rattle.std.specs.Prelude.{ℕ, nat_abs, List, [], ◌∷◌, codes}
use Rattle.bw_lang.specs.declared.stmt.Receive.{Receive}
use Rattle.bw_lang.specs.declared.token.Lexeme.{Lexeme}
use Rattle.bw_lang.specs.declared.token.Lexeme.TheVariants as lex
use Rattle.bw_lang.specs.Service.Term.{Term, int, truth, string, name, paren, not, neg, binary, call, plug, nothing, Fillings, no_more, filling}
use Rattle.bw_lang.specs.Service.Code.{Code, done, declare, assign, if_then, if_else, while_loop, block, for_each, show, exit}
use Rattle.bw_lang.specs.Text.Levels.{Levelled}
use Rattle.bw_lang.specs.Text.Words.{truth_word, fun_word, kind_word, op_sign, IsName}

abbrev mutual
  pub spell : Term → List Lexeme → List Lexeme
  spell (int n) k = lex.Number (nat_abs n) ∷ k
  spell (truth b) k = lex.Word (truth_word b) ∷ k
  spell (string s) k = lex.Str s ∷ k
  spell (name w) k = lex.Word w ∷ k
  spell (paren e) k = lex.Sign (codes "(") ∷ spell e (lex.Sign (codes ")") ∷ k)
  spell (not e) k = lex.Sign (codes "!") ∷ spell e k
  spell (neg e) k = lex.Sign (codes "-") ∷ spell e k
  spell (binary op l r) k = spell l (lex.Sign (op_sign op) ∷ spell r k)
  spell (call f e) k = lex.Word (fun_word f) ∷ (lex.Sign (codes "(") ∷ spell e (lex.Sign (codes ")") ∷ k))
  spell (plug b ps) k = spell b (spell_pairs (codes "<[") ps (lex.Sign (codes "]") ∷ k))
  spell nothing k = lex.Word (codes "none") ∷ k

  -- each pair behind a sign: the first behind this one, the others behind a comma
  pub spell_pairs : List ℕ → Fillings → List Lexeme → List Lexeme
  spell_pairs s no_more k = k
  spell_pairs s (filling w e ps) k = lex.Sign s ∷ (lex.Word w ∷ (lex.Sign (codes "=") ∷ spell e (spell_pairs (codes ",") ps k)))

-- each receive behind a sign: the first behind this one, the others behind a comma
abbrev pub spell_each : List ℕ → List Receive → List Lexeme → List Lexeme
spell_each s [] k = k
spell_each s (r ∷ rs) k = lex.Sign s ∷ (lex.Word r.target ∷ (lex.Sign (codes "=") ∷ (lex.Word r.field ∷ spell_each (codes ",") rs k)))

-- receive [ .. ], where there is one at all
abbrev pub spell_receives : List Receive → List Lexeme → List Lexeme
spell_receives [] k = k
spell_receives (r ∷ rs) k = lex.Word (codes "receive") ∷ spell_each (codes "[") (r ∷ rs) (lex.Sign (codes "]") ∷ k)

-- ( e )
abbrev pub spell_test : Term → List Lexeme → List Lexeme
spell_test e k = lex.Sign (codes "(") ∷ spell e (lex.Sign (codes ")") ∷ k)

-- NAME = e ;
abbrev pub spell_value : List ℕ → Term → List Lexeme → List Lexeme
spell_value w e k = lex.Word w ∷ (lex.Sign (codes "=") ∷ spell e (lex.Sign (codes ";") ∷ k))

abbrev pub spell_code : Code → List Lexeme → List Lexeme
spell_code done k = k
spell_code (declare t w e rest) k = lex.Word (kind_word t) ∷ spell_value w e (spell_code rest k)
spell_code (assign w e rest) k = spell_value w e (spell_code rest k)
spell_code (if_then t y rest) k =
    lex.Word (codes "if") ∷ spell_test t (lex.Sign (codes "{") ∷ spell_code y (lex.Sign (codes "}") ∷ spell_code rest k))
spell_code (if_else t y n rest) k =
    lex.Word (codes "if") ∷ spell_test t (lex.Sign (codes "{") ∷ spell_code y (lex.Sign (codes "}") ∷
    (lex.Word (codes "else") ∷ (lex.Sign (codes "{") ∷ spell_code n (lex.Sign (codes "}") ∷ spell_code rest k)))))
spell_code (while_loop t b rest) k =
    lex.Word (codes "while") ∷ spell_test t (lex.Sign (codes "{") ∷ spell_code b (lex.Sign (codes "}") ∷ spell_code rest k))
spell_code (block b rest) k = lex.Sign (codes "{") ∷ spell_code b (lex.Sign (codes "}") ∷ spell_code rest k)
spell_code (for_each w e b rest) k =
    lex.Word (codes "foreach") ∷ (lex.Sign (codes "(") ∷ (lex.Word w ∷ (lex.Word (codes "in") ∷ spell e (lex.Sign (codes ")") ∷
    (lex.Sign (codes "{") ∷ spell_code b (lex.Sign (codes "}") ∷ spell_code rest k))))))
spell_code (show p rs rest) k = lex.Word (codes "show") ∷ spell p (spell_receives rs (lex.Sign (codes ";") ∷ spell_code rest k))
spell_code (exit p rest) k = lex.Word (codes "exit") ∷ spell p (lex.Sign (codes ";") ∷ spell_code rest k)

-- each target is a name
abbrev pub HaveTargets : List Receive → Type 0
HaveTargets [] = Unit {0}
HaveTargets (r ∷ rs) = IsName r.target × HaveTargets rs

-- its expressions are levelled, and its names are no keywords
abbrev pub IsCode : Code → Type 0
IsCode done = Unit {0}
IsCode (declare t w e rest) = IsName w × Levelled e × IsCode rest
IsCode (assign w e rest) = IsName w × Levelled e × IsCode rest
IsCode (if_then t y rest) = Levelled t × IsCode y × IsCode rest
IsCode (if_else t y n rest) = Levelled t × IsCode y × IsCode n × IsCode rest
IsCode (while_loop t b rest) = Levelled t × IsCode b × IsCode rest
IsCode (block b rest) = IsCode b × IsCode rest
IsCode (for_each w e b rest) = IsName w × Levelled e × IsCode b × IsCode rest
IsCode (show p rs rest) = Levelled p × HaveTargets rs × IsCode rest
IsCode (exit p rest) = Levelled p × IsCode rest
