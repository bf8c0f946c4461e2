-- Statements that are spelled so are parsed.
use Rattle.std.proofs.Common.{◌≡◌, ℕ, ◌+◌, ◌*◌, List, ◌∷◌, length, Some, None, refl, sym, ◌∙◌, arith, codes}
use Rattle.bw_lang.specs.Service.Code.{Code, done, declare, assign, if_then, if_else, while_loop, block, for_each, show, exit, append}
use Rattle.bw_lang.specs.declared.stmt.Kind.{Kind}
use Rattle.bw_lang.specs.declared.stmt.Kind.TheVariants as kinds
use Rattle.bw_lang.specs.declared.stmt.Receive.{Receive}
use Rattle.bw_lang.specs.declared.token.Lexeme.{Lexeme}
use Rattle.bw_lang.specs.declared.token.Lexeme.TheVariants as lex
use Rattle.bw_lang.specs.Text.Levels.{Levelled}
use Rattle.bw_lang.specs.Text.Spelling.{spell, spell_test, spell_value, spell_code, spell_receives, IsCode, HaveTargets}
use Rattle.bw_lang.specs.Service.Term.{Term}
use Rattle.bw_lang.specs.Text.Words.{IsName, kind_word}
use Rattle.bw_parse.specs.Steps.Expressions.{parse_inside}
use Rattle.bw_parse.specs.Steps.Fronts.{behind, keyword, word, named}
use Rattle.bw_parse.specs.Steps.Statements.{condition, each_head, valued, simple, parse_show, parse_exit, parse_declare, parse_assign, code_of, one, braces}
use Rattle.bw_parse.specs.Steps.Statements.{parse_code}
use Rattle.bw_parse.proofs.CodeSteps.{code_is}
use Rattle.bw_parse.proofs.Comes.{Comes, later}
use Rattle.bw_parse.proofs.FrontLaws.{no_keyword, no_kind, kind_self}
use Rattle.bw_parse.proofs.Receives.{receives_give, receives_bind}
use Rattle.bw_parse.proofs.Steps.{parse_inside_is}
use Rattle.bw_parse.proofs.Whole.{parse_complete}

abbrev Got : Type 0
Got = Code × List Lexeme

inside_gives : (e : Term) (k : List Lexeme) → Levelled e → parse_inside (spell e (lex.Sign (codes ")") ∷ k)) ≡ Some (e, k)
unfolding behind
inside_gives e k v = parse_inside_is (spell e (lex.Sign (codes ")") ∷ k)) ∙ rw (parse_complete e (lex.Sign (codes ")") ∷ k) v (omega arith)) refl

condition_gives : (t : Term) (k : List Lexeme) → Levelled t → condition (spell_test t k) ≡ Some (t, k)
unfolding condition behind
condition_gives t k v = inside_gives t k v

head_gives : (w : List ℕ) (e : Term) (k : List Lexeme) → IsName w → Levelled e →
    each_head (lex.Sign (codes "(") ∷ lex.Word w ∷ lex.Word (codes "in") ∷ spell e (lex.Sign (codes ")") ∷ k)) ≡ Some ((w, e), k)
unfolding each_head named word behind keyword
head_gives w e k n v =
    rw n (rw (inside_gives e k v) refl)

valued_gives : (w : List ℕ) (e : Term) (k : List Lexeme) → IsName w → Levelled e → valued (spell_value w e k) ≡ Some ((w, e), k)
unfolding valued named word behind
valued_gives w e k n v = rw n (rw (parse_complete e (lex.Sign (codes ";") ∷ k) v (omega arith)) refl)

-- ---- statements without statements in them

assign_gives : (w : List ℕ) (e : Term) (k : List Lexeme) → IsName w → Levelled e → simple (spell_value w e k) ≡ Some (assign w e done, k)
unfolding simple parse_assign
assign_gives w e k n v =
    rw (no_keyword (codes "show") w _ n refl) (rw (no_keyword (codes "exit") w _ n refl) (rw (no_kind w _ n) (rw (valued_gives w e k n v) refl)))

declare_gives : (t : Kind) (w : List ℕ) (e : Term) (k : List Lexeme) → IsName w → Levelled e
    → simple (lex.Word (kind_word t) ∷ spell_value w e k) ≡ Some (declare t w e done, k)
unfolding simple parse_declare keyword
declare_gives t w e k n v = go t
  where
    go : (t : Kind) → simple (lex.Word (kind_word t) ∷ spell_value w e k) ≡ Some (declare t w e done, k)
    go kinds.Int = rw (kind_self kinds.Int (spell_value w e k)) (rw (valued_gives w e k n v) refl)
    go kinds.Bool = rw (kind_self kinds.Bool (spell_value w e k)) (rw (valued_gives w e k n v) refl)
    go kinds.Str = rw (kind_self kinds.Str (spell_value w e k)) (rw (valued_gives w e k n v) refl)
    go kinds.Strs = rw (kind_self kinds.Strs (spell_value w e k)) (rw (valued_gives w e k n v) refl)
    go kinds.Html = rw (kind_self kinds.Html (spell_value w e k)) (rw (valued_gives w e k n v) refl)

show_gives : (p : Term) (rs : List Receive) (k : List Lexeme) → Levelled p → HaveTargets rs → simple (spell_code (show p rs done) k) ≡ Some (show p rs done, k)
unfolding simple parse_show keyword behind
show_gives p rs k v n =
    rw (parse_complete p (spell_receives rs (lex.Sign (codes ";") ∷ k)) v (receives_bind rs k n)) (rw (receives_give rs k n) refl)

exit_gives : (p : Term) (k : List Lexeme) → Levelled p → simple (spell_code (exit p done) k) ≡ Some (exit p done, k)
unfolding simple parse_exit keyword behind
exit_gives p k v = rw (parse_complete p (lex.Sign (codes ";") ∷ k) v (omega arith)) refl

-- ---- all statements

-- no statement begins with else
begins : (c : Code) (k : List Lexeme) → IsCode c → keyword (codes "else") (spell_code c (lex.Sign (codes "}") ∷ k)) ≡ None
unfolding keyword
begins done k v = refl
begins (declare kinds.Int w e r) k v = refl
begins (declare kinds.Bool w e r) k v = refl
begins (declare kinds.Str w e r) k v = refl
begins (declare kinds.Html w e r) k v = refl
begins (declare kinds.Strs w e r) k v = refl
begins (assign w e r) k v = no_keyword (codes "else") w _ v.0 refl
begins (if_then t y r) k v = refl
begins (if_else t y n r) k v = refl
begins (while_loop t y r) k v = refl
begins (for_each w e y r) k v = refl
begins (block y r) k v = refl
begins (show p rs r) k v = refl
begins (exit p r) k v = refl

-- the statements, up to the closing brace
unfoldable pub Comes_from : Code → Type 0
Comes_from c = (k : List Lexeme) → Comes Got (λ f. code_of f (spell_code c (lex.Sign (codes "}") ∷ k))) (c, k)

-- one statement, and then the others
goes_on : (ts : List Lexeme) (s r : Code) (k : List Lexeme) → behind (codes "}") ts ≡ None →
    Comes Got (λ f. one f ts) (s, spell_code r (lex.Sign (codes "}") ∷ k)) → Comes_from r → Comes Got (λ f. code_of f ts) (append s r, k)
unfolding Comes_from code_of
goes_on ts s r k n a b =
    let g = b k in
    later (λ f. code_of f ts) (append s r, k) (a.from + g.from) (λ f le. rw n (rw (a.gives f (omega arith)) (rw (g.gives f (omega arith)) refl)))

braces_give : (b : Code) (k : List Lexeme) → Comes_from b → Comes Got (λ f. braces f (lex.Sign (codes "{") ∷ spell_code b (lex.Sign (codes "}") ∷ k))) (b, k)
unfolding Comes_from code_of behind
braces_give b k r = let g = r k in later (λ f. braces f _) (b, k) g.from (λ f le. g.gives f le)

-- a statement that is no if, no while, no foreach and no block
simple_one : (ts : List Lexeme) (x : Got) → keyword (codes "if") ts ≡ None → keyword (codes "while") ts ≡ None → keyword (codes "foreach") ts ≡ None →
    behind (codes "{") ts ≡ None → simple ts ≡ Some x → Comes Got (λ f. one f ts) x
unfolding code_of
simple_one ts x a b d c e = later (λ f. one f ts) x 0 (λ f le. rw a (rw b (rw d (rw c e))))

block_one : (b : Code) (k : List Lexeme) → Comes_from b → Comes Got (λ f. one f (spell_code (block b done) k)) (block b done, k)
unfolding code_of behind keyword Comes_from
block_one b k r = let g = r k in later (λ f. one f (spell_code (block b done) k)) _ g.from (λ f le. rw (g.gives f le) refl)

while_one : (t : Term) (b : Code) (k : List Lexeme) → Levelled t → Comes_from b
    → Comes Got (λ f. one f (spell_code (while_loop t b done) k)) (while_loop t b done, k)
unfolding code_of keyword
while_one t b k v r =
    let g = braces_give b k r in
    later (λ f. one f (spell_code (while_loop t b done) k)) _ g.from (λ f le. rw (condition_gives t _ v) (rw (g.gives f le) refl))

each_one : (w : List ℕ) (e : Term) (b : Code) (k : List Lexeme) → IsName w → Levelled e → Comes_from b →
    Comes Got (λ f. one f (spell_code (for_each w e b done) k)) (for_each w e b done, k)
unfolding code_of keyword
each_one w e b k n v r =
    let g = braces_give b k r in
    later (λ f. one f (spell_code (for_each w e b done) k)) _ g.from (λ f le. rw (head_gives w e _ n v) (rw (g.gives f le) refl))

if_one : (t : Term) (y : Code) (k : List Lexeme) → Levelled t → Comes_from y → keyword (codes "else") k ≡ None
    → Comes Got (λ f. one f (spell_code (if_then t y done) k)) (if_then t y done, k)
unfolding code_of keyword
if_one t y k v r n =
    let g = braces_give y k r in
    later (λ f. one f (spell_code (if_then t y done) k)) _ g.from (λ f le. rw (condition_gives t _ v) (rw (g.gives f le) (rw n refl)))

else_one : (t : Term) (y n : Code) (k : List Lexeme) → Levelled t → Comes_from y → Comes_from n
    → Comes Got (λ f. one f (spell_code (if_else t y n done) k)) (if_else t y n done, k)
unfolding code_of keyword
else_one t y n k v r s =
    let g = braces_give y (lex.Word (codes "else") ∷ lex.Sign (codes "{") ∷ spell_code n (lex.Sign (codes "}") ∷ k)) r in
    let h = braces_give n k s in
    later (λ f. one f (spell_code (if_else t y n done) k)) _ (g.from + h.from)
    (λ f le. rw (condition_gives t _ v) (rw (g.gives f (omega arith)) (rw (h.gives f (omega arith)) refl)))

declare_one : (t : Kind) (w : List ℕ) (e : Term) (k : List Lexeme) → IsName w → Levelled e
    → Comes Got (λ f. one f (spell_code (declare t w e done) k)) (declare t w e done, k)
unfolding keyword behind
declare_one kinds.Int w e k n v = simple_one _ _ refl refl refl refl (declare_gives kinds.Int w e k n v)
declare_one kinds.Bool w e k n v = simple_one _ _ refl refl refl refl (declare_gives kinds.Bool w e k n v)
declare_one kinds.Str w e k n v = simple_one _ _ refl refl refl refl (declare_gives kinds.Str w e k n v)
declare_one kinds.Strs w e k n v = simple_one _ _ refl refl refl refl (declare_gives kinds.Strs w e k n v)
declare_one kinds.Html w e k n v = simple_one _ _ refl refl refl refl (declare_gives kinds.Html w e k n v)

assign_one : (w : List ℕ) (e : Term) (k : List Lexeme) → IsName w → Levelled e → Comes Got (λ f. one f (spell_code (assign w e done) k)) (assign w e done, k)
unfolding behind
assign_one w e k n v =
    simple_one _ _ (no_keyword (codes "if") w _ n refl) (no_keyword (codes "while") w _ n refl) (no_keyword (codes "foreach") w _ n refl) refl
    (assign_gives w e k n v)

show_one : (p : Term) (rs : List Receive) (k : List Lexeme) → Levelled p → HaveTargets rs
    → Comes Got (λ f. one f (spell_code (show p rs done) k)) (show p rs done, k)
unfolding keyword behind
show_one p rs k v n = simple_one _ _ refl refl refl refl (show_gives p rs k v n)

exit_one : (p : Term) (k : List Lexeme) → Levelled p → Comes Got (λ f. one f (spell_code (exit p done) k)) (exit p done, k)
unfolding keyword behind
exit_one p k v = simple_one _ _ refl refl refl refl (exit_gives p k v)

pub complete_code : (c : Code) → IsCode c → Comes_from c
unfolding Comes_from code_of behind
complete_code done v k = later (λ f. code_of f _) (done, k) 0 (λ f le. refl)
complete_code (declare t w e r) v k = goes_on _ (declare t w e done) r k refl (declare_one t w e _ v.0 v.1) (complete_code r v.2)
complete_code (assign w e r) v k = goes_on _ (assign w e done) r k refl (assign_one w e _ v.0 v.1) (complete_code r v.2)
complete_code (if_then t y r) v k = goes_on _ (if_then t y done) r k refl (if_one t y _ v.0 (complete_code y v.1) (begins r k v.2)) (complete_code r v.2)
complete_code (if_else t y n r) v k =
    goes_on _ (if_else t y n done) r k refl (else_one t y n _ v.0 (complete_code y v.1) (complete_code n v.2)) (complete_code r v.3)
complete_code (while_loop t b r) v k = goes_on _ (while_loop t b done) r k refl (while_one t b _ v.0 (complete_code b v.1)) (complete_code r v.2)
complete_code (for_each w e b r) v k = goes_on _ (for_each w e b done) r k refl (each_one w e b _ v.0 v.1 (complete_code b v.2)) (complete_code r v.3)
complete_code (block b r) v k = goes_on _ (block b done) r k refl (block_one b _ (complete_code b v.0)) (complete_code r v.1)
complete_code (show p rs r) v k = goes_on _ (show p rs done) r k refl (show_one p rs _ v.0 v.1) (complete_code r v.2)
complete_code (exit p r) v k = goes_on _ (exit p done) r k refl (exit_one p _ v.0) (complete_code r v.1)

pub parse_code_gives : (c : Code) (k : List Lexeme) → IsCode c → parse_code (spell_code c (lex.Sign (codes "}") ∷ k)) ≡ Some (c, k)
unfolding Comes_from
parse_code_gives c k v =
    let g = complete_code c v k in
    let ts = spell_code c (lex.Sign (codes "}") ∷ k) in
    sym (code_is (g.from + (4 * length ts + 4)) ts (omega arith)) ∙ g.gives (g.from + (4 * length ts + 4)) (omega arith)
