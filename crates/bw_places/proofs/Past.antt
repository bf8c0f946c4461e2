-- Behind as many tokens as a thing is written with stands what follows it.
use Rattle.std.proofs.Common.{◌≡◌, ℕ, suc, ◌+◌, ◌*◌, List, [], ◌∷◌, length, drop, refl, arith, codes}
use Rattle.bw_lang.specs.declared.declaration.Draft.{Draft}
use Rattle.bw_lang.specs.declared.declaration.Draft.TheVariants as drafts
use Rattle.bw_lang.specs.declared.declaration.Written.{Written}
use Rattle.bw_lang.specs.declared.declaration.Written.TheVariants as written
use Rattle.bw_lang.specs.declared.stmt.Receive.{Receive}
use Rattle.bw_lang.specs.declared.token.Lexeme.{Lexeme}
use Rattle.bw_lang.specs.declared.token.Lexeme.TheVariants as lex
use Rattle.bw_lang.specs.Service.Code.{Code, done, declare, assign, if_then, if_else, while_loop, block, for_each, show, exit}
use Rattle.bw_lang.specs.Service.Drafts.{spell_draft, spell_drafts, spell_literal}
use Rattle.bw_lang.specs.Service.Term.{Term, int, truth, string, name, paren, not, neg, binary, call, plug, nothing, Fillings, no_more, filling}
use Rattle.bw_lang.specs.Text.Spelling.{spell, spell_pairs, spell_each, spell_receives, spell_test, spell_value, spell_code}
use Rattle.bw_places.specs.Counts.{term_tokens, pair_tokens, receive_tokens, code_tokens, literal_tokens, draft_tokens, drafts_tokens}
use Rattle.bw_places.specs.Heads.{Head, declares, assigns, tests, repeats, goes_over, shows, exits, spell_head, head_tokens}
use Rattle.bw_places.proofs.Dropping.{one_less, some_less}

mutual
  pub past_term : (e : Term) (k : List Lexeme) → drop (term_tokens e) (spell e k) ≡ k
  past_term (int n) k = refl
  past_term (truth b) k = refl
  past_term (string s) k = refl
  past_term (name w) k = refl
  past_term (paren e) k =
      one_less (term_tokens (paren e)) (term_tokens e + 1) _ _ _ (omega arith) (some_less (term_tokens e + 1) (term_tokens e) 1 _ _ _ (omega arith)
      (past_term e _) refl)
  past_term (not e) k = one_less (term_tokens (not e)) (term_tokens e) _ _ _ (omega arith) (past_term e k)
  past_term (neg e) k = one_less (term_tokens (neg e)) (term_tokens e) _ _ _ (omega arith) (past_term e k)
  past_term (binary op l r) k =
      some_less (term_tokens (binary op l r)) (term_tokens l) (1 + term_tokens r) _ _ _ (omega arith) (past_term l _)
      (one_less (1 + term_tokens r) (term_tokens r) _ _ _ (omega arith) (past_term r k))
  past_term (call f e) k =
      one_less (term_tokens (call f e)) (term_tokens e + 2) _ _ _ (omega arith) (one_less (term_tokens e + 2) (term_tokens e + 1) _ _ _ (omega arith)
      (some_less (term_tokens e + 1) (term_tokens e) 1 _ _ _ (omega arith) (past_term e _) refl))
  past_term (plug b ps) k =
      some_less (term_tokens (plug b ps)) (term_tokens b) (pair_tokens ps + 1) _ _ _ (omega arith) (past_term b _)
      (some_less (pair_tokens ps + 1) (pair_tokens ps) 1 _ _ _ (omega arith) (past_pairs _ ps _) refl)
  past_term nothing k = refl

  pub past_pairs : (s : List ℕ) (ps : Fillings) (k : List Lexeme) → drop (pair_tokens ps) (spell_pairs s ps k) ≡ k
  past_pairs s no_more k = refl
  past_pairs s (filling w e ps) k =
      one_less (pair_tokens (filling w e ps)) (2 + term_tokens e + pair_tokens ps) _ _ _ (omega arith)
      (one_less (2 + term_tokens e + pair_tokens ps) (1 + term_tokens e + pair_tokens ps) _ _ _ (omega arith)
      (one_less (1 + term_tokens e + pair_tokens ps) (term_tokens e + pair_tokens ps) _ _ _ (omega arith)
      (some_less (term_tokens e + pair_tokens ps) (term_tokens e) (pair_tokens ps) _ _ _ (omega arith) (past_term e _) (past_pairs _ ps k))))

pub past_each : (s : List ℕ) (rs : List Receive) (k : List Lexeme) → drop (4 * length rs) (spell_each s rs k) ≡ k
past_each s [] k = refl
past_each s (r ∷ rs) k =
    one_less (4 * length (r ∷ rs)) (3 + 4 * length rs) _ _ _ (omega arith) (one_less (3 + 4 * length rs) (2 + 4 * length rs) _ _ _ (omega arith)
    (one_less (2 + 4 * length rs) (1 + 4 * length rs) _ _ _ (omega arith) (one_less (1 + 4 * length rs) (4 * length rs) _ _ _ (omega arith)
    (past_each _ rs k))))

pub past_receives : (rs : List Receive) (k : List Lexeme) → drop (receive_tokens rs) (spell_receives rs k) ≡ k
past_receives [] k = refl
past_receives (r ∷ rs) k =
    one_less (receive_tokens (r ∷ rs)) (4 * length (r ∷ rs) + 1) _ _ _ (omega arith)
    (some_less (4 * length (r ∷ rs) + 1) (4 * length (r ∷ rs)) 1 _ _ _ refl (past_each _ (r ∷ rs) _) refl)

pub past_test : (e : Term) (k : List Lexeme) → drop (2 + term_tokens e) (spell_test e k) ≡ k
past_test e k =
    one_less (2 + term_tokens e) (term_tokens e + 1) _ _ _ (omega arith) (some_less (term_tokens e + 1) (term_tokens e) 1 _ _ _ (omega arith)
    (past_term e _) refl)

pub past_value : (w : List ℕ) (e : Term) (k : List Lexeme) → drop (3 + term_tokens e) (spell_value w e k) ≡ k
past_value w e k =
    one_less (3 + term_tokens e) (term_tokens e + 2) _ _ _ (omega arith) (one_less (term_tokens e + 2) (term_tokens e + 1) _ _ _ (omega arith)
    (some_less (term_tokens e + 1) (term_tokens e) 1 _ _ _ (omega arith) (past_term e _) refl))

pub past_head : (h : Head) (k : List Lexeme) → drop (head_tokens h) (spell_head h k) ≡ k
past_head (declares kind w e) k = one_less (head_tokens (declares kind w e)) (3 + term_tokens e) _ _ _ (omega arith) (past_value w e k)
past_head (assigns w e) k = past_value w e k
past_head (tests t) k = one_less (head_tokens (tests t)) (2 + term_tokens t) _ _ _ (omega arith) (past_test t k)
past_head (repeats t) k = one_less (head_tokens (repeats t)) (2 + term_tokens t) _ _ _ (omega arith) (past_test t k)
past_head (goes_over w e) k =
    one_less (head_tokens (goes_over w e)) (term_tokens e + 4) _ _ _ (omega arith) (one_less (term_tokens e + 4) (term_tokens e + 3) _ _ _ (omega arith)
    (one_less (term_tokens e + 3) (term_tokens e + 2) _ _ _ (omega arith) (one_less (term_tokens e + 2) (term_tokens e + 1) _ _ _ (omega arith)
    (some_less (term_tokens e + 1) (term_tokens e) 1 _ _ _ (omega arith) (past_term e _) refl))))
past_head (shows p rs) k =
    one_less (head_tokens (shows p rs)) (term_tokens p + (receive_tokens rs + 1)) _ _ _ (omega arith)
    (some_less (term_tokens p + (receive_tokens rs + 1)) (term_tokens p) (receive_tokens rs + 1) _ _ _ refl (past_term p _)
    (some_less (receive_tokens rs + 1) (receive_tokens rs) 1 _ _ _ refl (past_receives rs _) refl))
past_head (exits p) k =
    one_less (head_tokens (exits p)) (term_tokens p + 1) _ _ _ (omega arith) (some_less (term_tokens p + 1) (term_tokens p) 1 _ _ _ refl (past_term p _) refl)

pub past_code : (c : Code) (k : List Lexeme) → drop (code_tokens c) (spell_code c k) ≡ k
past_code done k = refl
past_code (declare kind w e rest) k =
    some_less (code_tokens (declare kind w e rest)) (head_tokens (declares kind w e)) (code_tokens rest) _ _ _ (omega arith) (past_head
    (declares kind w e) _) (past_code rest k)
past_code (assign w e rest) k =
    some_less (code_tokens (assign w e rest)) (head_tokens (assigns w e)) (code_tokens rest) _ _ _ (omega arith) (past_head (assigns w e) _) (past_code rest k)
past_code (if_then t y rest) k =
    some_less (code_tokens (if_then t y rest)) (head_tokens (tests t)) (1 + (code_tokens y + (1 + code_tokens rest))) _ _ _ (omega arith) (past_head
    (tests t) _)
    (one_less (1 + (code_tokens y + (1 + code_tokens rest))) (code_tokens y + (1 + code_tokens rest)) _ _ _ (omega arith)
    (some_less (code_tokens y + (1 + code_tokens rest)) (code_tokens y) (1 + code_tokens rest) _ _ _ refl (past_code y _)
    (one_less (1 + code_tokens rest) (code_tokens rest) _ _ _ (omega arith) (past_code rest k))))
past_code (if_else t y n rest) k =
    some_less (code_tokens (if_else t y n rest)) (head_tokens (tests t)) (1 + (code_tokens y + (3 + (code_tokens n + (1 + code_tokens rest))))) _ _ _
    (omega arith)
    (past_head (tests t) _)
    (one_less (1 + (code_tokens y + (3 + (code_tokens n + (1 + code_tokens rest))))) (code_tokens y + (3 + (code_tokens n +
    (1 + code_tokens rest)))) _ _ _ (omega arith)
    (some_less (code_tokens y + (3 + (code_tokens n + (1 + code_tokens rest)))) (code_tokens y) (3 + (code_tokens n +
    (1 + code_tokens rest))) _ _ _ refl (past_code y _)
    (some_less (3 + (code_tokens n + (1 + code_tokens rest))) 3 (code_tokens n + (1 + code_tokens rest)) _ _ _ refl refl
    (some_less (code_tokens n + (1 + code_tokens rest)) (code_tokens n) (1 + code_tokens rest) _ _ _ refl (past_code n _)
    (one_less (1 + code_tokens rest) (code_tokens rest) _ _ _ (omega arith) (past_code rest k))))))
past_code (while_loop t b rest) k =
    some_less (code_tokens (while_loop t b rest)) (head_tokens (repeats t)) (1 + (code_tokens b + (1 + code_tokens rest))) _ _ _ (omega arith)
    (past_head (repeats t) _)
    (one_less (1 + (code_tokens b + (1 + code_tokens rest))) (code_tokens b + (1 + code_tokens rest)) _ _ _ (omega arith)
    (some_less (code_tokens b + (1 + code_tokens rest)) (code_tokens b) (1 + code_tokens rest) _ _ _ refl (past_code b _)
    (one_less (1 + code_tokens rest) (code_tokens rest) _ _ _ (omega arith) (past_code rest k))))
past_code (block b rest) k =
    one_less (code_tokens (block b rest)) (code_tokens b + (1 + code_tokens rest)) _ _ _ (omega arith)
    (some_less (code_tokens b + (1 + code_tokens rest)) (code_tokens b) (1 + code_tokens rest) _ _ _ refl (past_code b _)
    (one_less (1 + code_tokens rest) (code_tokens rest) _ _ _ (omega arith) (past_code rest k)))
past_code (for_each w e b rest) k =
    some_less (code_tokens (for_each w e b rest)) (head_tokens (goes_over w e)) (1 + (code_tokens b + (1 + code_tokens rest))) _ _ _ (omega arith)
    (past_head (goes_over w e) _)
    (one_less (1 + (code_tokens b + (1 + code_tokens rest))) (code_tokens b + (1 + code_tokens rest)) _ _ _ (omega arith)
    (some_less (code_tokens b + (1 + code_tokens rest)) (code_tokens b) (1 + code_tokens rest) _ _ _ refl (past_code b _)
    (one_less (1 + code_tokens rest) (code_tokens rest) _ _ _ (omega arith) (past_code rest k))))
past_code (show p rs rest) k =
    some_less (code_tokens (show p rs rest)) (head_tokens (shows p rs)) (code_tokens rest) _ _ _ (omega arith) (past_head (shows p rs) _) (past_code rest k)
past_code (exit p rest) k =
    some_less (code_tokens (exit p rest)) (head_tokens (exits p)) (code_tokens rest) _ _ _ (omega arith) (past_head (exits p) _) (past_code rest k)

pub past_literal : (x : Written) (k : List Lexeme) → drop (literal_tokens x) (spell_literal x k) ≡ k
past_literal (written.Plus n) k = refl
past_literal (written.Minus n) k = refl
past_literal (written.Bool b) k = refl
past_literal (written.Str s) k = refl
past_literal (written.Name w) k = refl

pub past_draft : (d : Draft) (k : List Lexeme) → drop (draft_tokens d) (spell_draft d k) ≡ k
past_draft (drafts.Template w inside) k = refl
past_draft (drafts.Shared kind w init) k =
    some_less (draft_tokens (drafts.Shared kind w init)) 4 (literal_tokens init + 1) _ _ _ (omega arith) refl
    (some_less (literal_tokens init + 1) (literal_tokens init) 1 _ _ _ refl (past_literal init _) refl)
past_draft (drafts.Session s) k =
    some_less (draft_tokens (drafts.Session s)) 5 (code_tokens s.body + 1) _ _ _ (omega arith) refl
    (some_less (code_tokens s.body + 1) (code_tokens s.body) 1 _ _ _ refl (past_code s.body _) refl)

pub past_drafts : (ds : List Draft) (k : List Lexeme) → drop (drafts_tokens ds) (spell_drafts ds k) ≡ k
past_drafts [] k = refl
past_drafts (d ∷ ds) k = some_less (drafts_tokens (d ∷ ds)) (draft_tokens d) (drafts_tokens ds) _ _ _ refl (past_draft d _) (past_drafts ds k)
