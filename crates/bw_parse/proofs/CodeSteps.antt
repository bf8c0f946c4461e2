-- More steps than can be needed change nothing, so the parser of statements meets its own equations.
use Rattle.std.proofs.Common.{◌≡◌, ℕ, zero, suc, ◌+◌, ◌*◌, ◌<◌, ◌≤◌, List, [], ◌∷◌, ◌++◌, length, Some, None, refl, sym, ap, ◌∙◌, arith, codes}
use Rattle.bw_lang.specs.Service.Code.{Code, done, declare, assign, if_then, if_else, while_loop, block, for_each, show, exit, append}
use Rattle.bw_lang.specs.Service.CodeView.{code, before}
use Rattle.bw_lang.specs.declared.stmt.Receive.{Receive}
use Rattle.bw_lang.specs.declared.stmt.Stmt.{Stmt}
use Rattle.bw_lang.specs.declared.token.Lexeme.{Lexeme}
use Rattle.bw_lang.specs.declared.token.Lexeme.TheVariants as lex
use Rattle.bw_lang.specs.Text.Spelling.{spell_code, spell_receives, spell_each}
use Rattle.bw_lang.specs.Service.Term.{Term}
use Rattle.bw_lang.specs.Table.Options.{◌>>=◌, where_some}
use Rattle.bw_parse.specs.Steps.Fronts.{Read, behind, keyword}
use Rattle.bw_parse.specs.Steps.Statements.{condition, each_head, simple, code_of, one, braces, parse_code, parse_one, parse_braces, with_code, parse_if}
use Rattle.bw_parse.specs.Steps.Statements.{parse_while, parse_each}
use Rattle.bw_lang.proofs.Codes.{append_code_assoc, append_done, code-append}
use Rattle.bw_parse.proofs.CodeSound.{condition_is, each_is, IsStatement, sound_one, sound_braces}
use Rattle.bw_parse.proofs.FrontLaws.{keyword_is}
use Rattle.bw_parse.proofs.Shorter.{longer, behind_shorter}
use Rattle.bw_parse.proofs.Stable.{bind_same, where_same}
use Rattle.bw_parse.proofs.Steps.{same_from}

pub keyword_shorter : (v : List ℕ) (ts k : List Lexeme) → keyword v ts ≡ Some k → length k + 1 ≡ length ts
keyword_shorter v ts k e = omega (arith, ap length (keyword_is v ts k e))

condition_shorter : (ts : List Lexeme) (x : Term × List Lexeme) → condition ts ≡ Some x → length x.1 < length ts
condition_shorter ts x e = omega (arith, ap length (condition_is ts x e).0, longer x.0 (lex.Sign (codes ")") ∷ x.1))

head_shorter : (ts : List Lexeme) (x : (List ℕ × Term) × List Lexeme) → each_head ts ≡ Some x → length x.1 < length ts
head_shorter ts x e = omega (arith, ap length (each_is ts x e).0, longer x.0.1 (lex.Sign (codes ")") ∷ x.1))

list_longer : (s : List ℕ) (rs : List Receive) (k : List Lexeme) → length k ≤ length (spell_each s rs k)
list_longer s [] k = omega arith
list_longer s (r ∷ rs) k = omega (arith, list_longer (codes ",") rs k)

receives_longer : (rs : List Receive) (k : List Lexeme) → length k ≤ length (spell_receives rs k)
receives_longer [] k = omega arith
receives_longer (r ∷ rs) k = omega (arith, list_longer (codes ",") rs (lex.Sign (codes "]") ∷ k))

pub code_longer : (c : Code) (k : List Lexeme) → length k ≤ length (spell_code c k)
code_longer done k = omega arith
code_longer (declare t w e r) k = omega (arith, longer e (lex.Sign (codes ";") ∷ spell_code r k), code_longer r k)
code_longer (exit p r) k = omega (arith, longer p (lex.Sign (codes ";") ∷ spell_code r k), code_longer r k)
code_longer (assign w e r) k = omega (arith, longer e (lex.Sign (codes ";") ∷ spell_code r k), code_longer r k)
code_longer (if_then t y r) k =
    omega (
      arith,
      longer t (lex.Sign (codes ")") ∷ lex.Sign (codes "{") ∷ spell_code y (lex.Sign (codes "}") ∷ spell_code r k)),
      code_longer y (lex.Sign (codes "}") ∷ spell_code r k),
      code_longer r k,
    )
code_longer (if_else t y n r) k =
    let b = lex.Sign (codes "}") ∷ spell_code r k in
    let a = lex.Sign (codes "}") ∷ lex.Word (codes "else") ∷ lex.Sign (codes "{") ∷ spell_code n b in
    omega (arith, longer t (lex.Sign (codes ")") ∷ lex.Sign (codes "{") ∷ spell_code y a), code_longer y a, code_longer n b, code_longer r k)
code_longer (while_loop t y r) k =
    omega (
      arith,
      longer t (lex.Sign (codes ")") ∷ lex.Sign (codes "{") ∷ spell_code y (lex.Sign (codes "}") ∷ spell_code r k)),
      code_longer y (lex.Sign (codes "}") ∷ spell_code r k),
      code_longer r k,
    )
code_longer (for_each w e y r) k =
    omega (
      arith,
      longer e (lex.Sign (codes ")") ∷ lex.Sign (codes "{") ∷ spell_code y (lex.Sign (codes "}") ∷ spell_code r k)),
      code_longer y (lex.Sign (codes "}") ∷ spell_code r k),
      code_longer r k,
    )
code_longer (block y r) k = omega (arith, code_longer y (lex.Sign (codes "}") ∷ spell_code r k), code_longer r k)
code_longer (show p rs r) k =
    omega (
      arith,
      longer p (spell_receives rs (lex.Sign (codes ";") ∷ spell_code r k)),
      receives_longer rs (lex.Sign (codes ";") ∷ spell_code r k),
      code_longer r k,
    )

statement_longer : (c : Code) (k : List Lexeme) → IsStatement c → length k < length (spell_code c k)
statement_longer done k s = absurd s
statement_longer (declare t w e r) k s = omega (arith, longer e (lex.Sign (codes ";") ∷ spell_code r k), code_longer r k)
statement_longer (exit p r) k s = omega (arith, longer p (lex.Sign (codes ";") ∷ spell_code r k), code_longer r k)
statement_longer (assign w e r) k s = omega (arith, longer e (lex.Sign (codes ";") ∷ spell_code r k), code_longer r k)
statement_longer (if_then t y r) k s =
    omega (
      arith,
      longer t (lex.Sign (codes ")") ∷ lex.Sign (codes "{") ∷ spell_code y (lex.Sign (codes "}") ∷ spell_code r k)),
      code_longer y (lex.Sign (codes "}") ∷ spell_code r k),
      code_longer r k,
    )
statement_longer (if_else t y n r) k s =
    let b = lex.Sign (codes "}") ∷ spell_code r k in
    let a = lex.Sign (codes "}") ∷ lex.Word (codes "else") ∷ lex.Sign (codes "{") ∷ spell_code n b in
    omega (arith, longer t (lex.Sign (codes ")") ∷ lex.Sign (codes "{") ∷ spell_code y a), code_longer y a, code_longer n b, code_longer r k)
statement_longer (while_loop t y r) k s =
    omega (
      arith,
      longer t (lex.Sign (codes ")") ∷ lex.Sign (codes "{") ∷ spell_code y (lex.Sign (codes "}") ∷ spell_code r k)),
      code_longer y (lex.Sign (codes "}") ∷ spell_code r k),
      code_longer r k,
    )
statement_longer (for_each w e y r) k s =
    omega (
      arith,
      longer e (lex.Sign (codes ")") ∷ lex.Sign (codes "{") ∷ spell_code y (lex.Sign (codes "}") ∷ spell_code r k)),
      code_longer y (lex.Sign (codes "}") ∷ spell_code r k),
      code_longer r k,
    )
statement_longer (block y r) k s = omega (arith, code_longer y (lex.Sign (codes "}") ∷ spell_code r k), code_longer r k)
statement_longer (show p rs r) k s =
    omega (
      arith,
      longer p (spell_receives rs (lex.Sign (codes ";") ∷ spell_code r k)),
      receives_longer rs (lex.Sign (codes ";") ∷ spell_code r k),
      code_longer r k,
    )

pub one_shorter : (f : ℕ) (ts : List Lexeme) (x : Code × List Lexeme) → one f ts ≡ Some x → length x.1 < length ts
one_shorter f ts x e = let r = sound_one f ts x e in omega (arith, ap length r.spelled, statement_longer x.0 x.1 r.some)

braces_shorter : (f : ℕ) (ts : List Lexeme) (x : Code × List Lexeme) → braces f ts ≡ Some x → length x.1 < length ts
braces_shorter f ts x e = let r = sound_braces f ts x e in omega (arith, ap length r.0, code_longer x.0 (lex.Sign (codes "}") ∷ x.1))

mutual
  unfolding code_of

  stable_code : (f : ℕ) (ts : List Lexeme) → 4 * length ts + 2 ≤ f → code_of (suc f) ts ≡ code_of f ts
  stable_code zero ts le = absurd (omega arith)
  stable_code (suc f) ts le =
      where_same (behind (codes "}") ts) _ _ _ _ (λ k p. refl)
      (λ p. bind_same (one (suc f) ts) (one f ts) _ _ (stable_one f ts (omega arith))
      (λ s e. let t = one_shorter f ts s e in ap (λ o. o >>= λ c. Some (append s.0 c.0, c.1)) (stable_code f s.1 (omega arith))))

  stable_braces : (f : ℕ) (ts : List Lexeme) → 4 * length ts + 1 ≤ f → braces (suc f) ts ≡ braces f ts
  stable_braces zero ts le = absurd (omega arith)
  stable_braces (suc f) ts le =
      bind_same (behind (codes "{") ts) _ _ _ refl (λ k p. let s = behind_shorter (codes "{") ts k p in stable_code f k (omega arith))

  stable_one : (f : ℕ) (ts : List Lexeme) → 4 * length ts + 1 ≤ f → one (suc f) ts ≡ one f ts
  stable_one zero ts le = absurd (omega arith)
  stable_one (suc f) ts le =
      where_same (keyword (codes "if") ts) _ _ _ _
      (λ k p. let s = keyword_shorter (codes "if") ts k p in
      bind_same (condition k) _ _ _ refl
      (λ t q. let u = condition_shorter k t q in
      bind_same (braces (suc f) t.1) (braces f t.1) _ _ (stable_braces f t.1 (omega arith))
      (λ y r. let v = braces_shorter f t.1 y r in
      where_same (keyword (codes "else") y.1) _ _ _ _
      (λ e w. let z = keyword_shorter (codes "else") y.1 e w in ap (λ o. o >>= λ n. Some (if_else t.0 y.0 n.0 done, n.1)) (stable_braces f e (omega arith)))
      (λ w. refl))))
      (λ p. where_same (keyword (codes "while") ts) _ _ _ _
      (λ k p. let s = keyword_shorter (codes "while") ts k p in
      bind_same (condition k) _ _ _ refl
      (λ t q. let u = condition_shorter k t q in ap (λ o. o >>= λ b. Some (while_loop t.0 b.0 done, b.1)) (stable_braces f t.1 (omega arith))))
      (λ p. where_same (keyword (codes "foreach") ts) _ _ _ _
      (λ k p. let s = keyword_shorter (codes "foreach") ts k p in
      bind_same (each_head k) _ _ _ refl
      (λ h q. let u = head_shorter k h q in ap (λ o. o >>= λ b. Some (for_each h.0.0 h.0.1 b.0 done, b.1)) (stable_braces f h.1 (omega arith))))
      (λ p. where_same (behind (codes "{") ts) _ _ _ _
      (λ k p. let s = behind_shorter (codes "{") ts k p in ap (λ o. o >>= λ b. Some (block b.0 done, b.1)) (stable_code f k (omega arith)))
      (λ p. refl))))

pub code_is : (f : ℕ) (ts : List Lexeme) → 4 * length ts + 2 ≤ f → code_of f ts ≡ parse_code ts
unfolding parse_code
code_is f ts le = same_from (λ f. code_of f ts) (4 * length ts + 2) (λ f h. stable_code f ts h) f (4 * length ts + 4) le (omega arith)

one_is : (f : ℕ) (ts : List Lexeme) → 4 * length ts + 1 ≤ f → one f ts ≡ parse_one ts
unfolding parse_one
one_is f ts le = same_from (λ f. one f ts) (4 * length ts + 1) (λ f h. stable_one f ts h) f (4 * length ts + 4) le (omega arith)

pub parse_code_is : (ts : List Lexeme)
    → parse_code ts ≡ where_some (behind (codes "}") ts) (λ k. Some (done, k)) (parse_one ts >>= λ s. with_code s.0 (parse_code s.1))
unfolding code_of
parse_code_is ts =
    let f = 4 * length ts + 8 in
    sym (code_is (suc f) ts (omega arith))
    ∙ where_same (behind (codes "}") ts) _ _ _ _ (λ k p. refl)
    (λ p. bind_same (one f ts) (parse_one ts) _ _ (one_is f ts (omega arith))
    (λ s e. let t = one_shorter f ts s (one_is f ts (omega arith) ∙ e) in
    ap (λ o. o >>= λ c. Some (append s.0 c.0, c.1)) (code_is f s.1 (omega arith)) ∙ fold s.0 (parse_code s.1)))
  where
    fold : (c : Code) (o : Read Code) → (o >>= λ x. Some (append c x.0, x.1)) ≡ with_code c o
    fold c None = refl
    fold c (Some x) = refl

braces_are : (f : ℕ) (ts : List Lexeme) → 4 * length ts + 1 ≤ f → braces f ts ≡ parse_braces ts
unfolding parse_braces
braces_are f ts le = same_from (λ f. braces f ts) (4 * length ts + 1) (λ f h. stable_braces f ts h) f (4 * length ts + 4) le (omega arith)

pub parse_braces_is : (ts : List Lexeme) → parse_braces ts ≡ (behind (codes "{") ts >>= λ k. parse_code k)
unfolding code_of
parse_braces_is ts =
    let f = 4 * length ts + 8 in
    sym (braces_are (suc f) ts (omega arith))
    ∙ bind_same (behind (codes "{") ts) _ _ _ refl (λ k p. let s = behind_shorter (codes "{") ts k p in code_is f k (omega arith))

pub parse_one_is : (ts : List Lexeme) → parse_one ts ≡
    where_some (keyword (codes "if") ts) (λ k. parse_if k) (where_some (keyword (codes "while") ts) (λ k. parse_while k)
    (where_some (keyword (codes "foreach") ts) (λ k. parse_each k)
    (where_some (behind (codes "{") ts) (λ k. parse_code k >>= λ b. Some (block b.0 done, b.1)) (simple ts))))
unfolding code_of parse_if parse_while parse_each
parse_one_is ts =
    let f = 4 * length ts + 8 in
    sym (one_is (suc f) ts (omega arith))
    ∙ where_same (keyword (codes "if") ts) _ _ _ _
    (λ k p. let s = keyword_shorter (codes "if") ts k p in
    bind_same (condition k) _ _ _ refl
    (λ t q. let u = condition_shorter k t q in
    bind_same (braces f t.1) (parse_braces t.1) _ _ (braces_are f t.1 (omega arith))
    (λ y r. let v = braces_shorter f t.1 y (braces_are f t.1 (omega arith) ∙ r) in
    where_same (keyword (codes "else") y.1) _ _ _ _
    (λ e w. let z = keyword_shorter (codes "else") y.1 e w in ap (λ o. o >>= λ n. Some (if_else t.0 y.0 n.0 done, n.1)) (braces_are f e (omega arith)))
    (λ w. refl))))
    (λ p. where_same (keyword (codes "while") ts) _ _ _ _
    (λ k p. let s = keyword_shorter (codes "while") ts k p in
    bind_same (condition k) _ _ _ refl
    (λ t q. let u = condition_shorter k t q in ap (λ o. o >>= λ b. Some (while_loop t.0 b.0 done, b.1)) (braces_are f t.1 (omega arith))))
    (λ p. where_same (keyword (codes "foreach") ts) _ _ _ _
    (λ k p. let s = keyword_shorter (codes "foreach") ts k p in
    bind_same (each_head k) _ _ _ refl
    (λ h q. let u = head_shorter k h q in ap (λ o. o >>= λ b. Some (for_each h.0.0 h.0.1 b.0 done, b.1)) (braces_are f h.1 (omega arith))))
    (λ p. where_same (behind (codes "{") ts) _ _ _ _
    (λ k p. let s = behind_shorter (codes "{") ts k p in ap (λ o. o >>= λ b. Some (block b.0 done, b.1)) (code_is f k (omega arith)))
    (λ p. refl))))

-- ---- a list of statements

with_with : (a b : Code) (o : Read Code) → with_code a (with_code b o) ≡ with_code (append a b) o
with_with a b None = refl
with_with a b (Some x) = ap (λ c. Some (c, x.1)) (sym (append_code_assoc a b x.0))

pub with_done : (o : Read Code) → with_code done o ≡ o
with_done None = refl
with_done (Some x) = refl

-- at the closing brace
pub code_ends : (front : Code) (ts k : List Lexeme) → behind (codes "}") ts ≡ Some k → with_code front (parse_code ts) ≡ Some (front, k)
code_ends front ts k e =
    ap (with_code front) (parse_code_is ts ∙ ap (λ o. where_some o (λ k. Some (done, k)) (parse_one ts >>= λ s. with_code s.0 (parse_code s.1))) e)
    ∙ ap (λ c. Some (c, k)) (append_done front)

-- at a statement
pub code_goes : (xs : List Stmt) (s : Stmt) (ts k : List Lexeme) → behind (codes "}") ts ≡ None → parse_one ts ≡ Some (before s done, k)
    → with_code (code xs) (parse_code ts) ≡ with_code (code (xs ++ s ∷ [])) (parse_code k)
code_goes xs s ts k n e =
    ap (with_code (code xs)) (parse_code_is ts ∙ ap (λ o. where_some o (λ k. Some (done, k)) (parse_one ts >>= λ s. with_code s.0 (parse_code s.1))) n
    ∙ ap (λ o. o >>= λ s. with_code s.0 (parse_code s.1)) e)
    ∙ with_with (code xs) (before s done) (parse_code k) ∙ ap (λ c. with_code c (parse_code k)) (sym (code-append xs (s ∷ [])))

-- at no statement
pub code_fails : (front : Code) (ts : List Lexeme) → behind (codes "}") ts ≡ None → parse_one ts ≡ None → with_code front (parse_code ts) ≡ None
code_fails front ts n e =
    ap (with_code front) (parse_code_is ts ∙ ap (λ o. where_some o (λ k. Some (done, k)) (parse_one ts >>= λ s. with_code s.0 (parse_code s.1))) n
    ∙ ap (λ o. o >>= λ s. with_code s.0 (parse_code s.1)) e)

pub ruleset code_equations = (parse_braces_is, parse_one_is, code_ends, code_goes, code_fails, with_done)
