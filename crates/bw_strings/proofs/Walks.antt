-- The walk over a service goes one pair or one statement on.
use Rattle.std.proofs.Common.{◌≡◌, ℕ, ◌+◌, ◌<◌, List, ◌∷◌, ◌++◌, length, get_or, drop, Some, None, refl, sym, ap, ◌∙◌, append_assoc, append-nil}
use Rattle.std.proofs.Common.{map, flat_map}
use Rattle.std.proofs.lemmas.Grind.{fold-append}
use Rattle.bw_lang.specs.declared.stmt.Stmt.{Stmt}
use Rattle.bw_lang.specs.declared.stmt.Stmt.TheVariants.{Declare, Assign, If, While, Block, Each, Show, Exit}
use Rattle.bw_lang.specs.Service.Code.{Code, done}
use Rattle.bw_lang.specs.Service.CodeView.{before, code}
use Rattle.bw_lang.specs.Table.Names.{with_name, with_names}
use Rattle.bw_lang.specs.Service.TermView.{term, fillings}
use Rattle.bw_solve.proofs.Walk.{left_at}
use Rattle.bw_lang.specs.Service.Order.{seen}
use Rattle.bw_strings.specs.Literals.{term_strings, filling_strings, code_strings, declaration_strings}

pub ruleset walk_steps = (fold-append)

-- the strings of a list are those of its first element and then those of the others
pub record Splits {X : Type 0} (l : List X → List (List ℕ)) (f : X → List (List ℕ)) : Type 0 where
  pub step : (x : X) (xs : List X) → l (x ∷ xs) ≡ f x ++ l xs

-- the strings of one element were taken in, and those behind it are to come
pub noted : {X : Type 0} {l : List X → List (List ℕ)} {f : X → List (List ℕ)} (s : Splits l f) (xs : List X) (i : ℕ) (x : X) (old new all : List (List ℕ))
    → x ≡ get_or xs i x → i < length xs → new ≡ with_names old (f x) → with_names old (l (drop i xs)) ≡ all → with_names new (l (drop (i + 1) xs)) ≡ all
noted {X} {l} {f} s xs i x old new all is lt e rest =
    ap (λ t. with_names t (l (drop (i + 1) xs))) e ∙ sym (fold-append with_name old (f x) (l (drop (i + 1) xs)))
    ∙ ap (with_names old) (sym (s.step x (drop (i + 1) xs)) ∙ ap l (sym (left_at xs i x lt is))) ∙ rest

pub by_pairs : Splits (λ ps. filling_strings (fillings ps)) (λ p. term_strings (term p.value))
by_pairs = record { step = λ p ps. refl }

statement_strings : (s : Stmt) (rest : Code) → code_strings (before s rest) ≡ code_strings (before s done) ++ code_strings rest
statement_strings (Declare t w e) rest = simp (append_assoc, append-nil)
statement_strings (Assign w e) rest = simp (append_assoc, append-nil)
statement_strings (If t y None) rest = simp (append_assoc, append-nil)
statement_strings (If t y (Some n)) rest = simp (append_assoc, append-nil)
statement_strings (While t b) rest = simp (append_assoc, append-nil)
statement_strings (Block b) rest = simp append-nil
statement_strings (Each w e b) rest = simp (append_assoc, append-nil)
statement_strings (Show p rs) rest = simp append-nil
statement_strings (Exit p) rest = simp append-nil

pub by_statements : Splits (λ ss. code_strings (code ss)) (λ s. code_strings (before s done))
by_statements = record { step = λ s ss. statement_strings s (code ss) }

pub by_declarations : Splits (λ ds. flat_map declaration_strings (map seen ds)) (λ d. declaration_strings (seen d))
by_declarations = record { step = λ d ds. refl }
