-- What is in scope at a token, one statement after the other.
use Rattle.std.proofs.Common.{◌≡◌, ◌<◌, ◌≤◌, ℕ, ◌+◌, Bool, true, false, if◌then◌else◌, List, ◌++◌, [], ◌∷◌, length, get_or, drop, refl, ap, sym, ◌∙◌, subst, arith}
use Rattle.std.proofs.Common.{Some, None}
use Rattle.std.specs.Prelude.{nat_lt}
use Rattle.std.proofs.lemmas.Bool.{lt-ltb, le-ltb}
use Rattle.std.proofs.lemmas.List.{at_drop_more}
use Rattle.bw_lang.specs.declared.stmt.Stmt.{Stmt}
use Rattle.bw_lang.specs.declared.stmt.Stmt.TheVariants.{Declare, Assign, If, While, Each, Block, Show, Exit}
use Rattle.bw_lang.specs.Service.Code.{Code, done}
use Rattle.bw_lang.specs.Service.CodeView.{before, code}
use Rattle.bw_lang.specs.Service.TermView.{term}
use Rattle.bw_places.specs.Counts.{term_tokens, receive_tokens, code_tokens}
use Rattle.bw_places.specs.Scopes.{locals_at, behind_stmt}

-- within so many tokens, and behind them
within : (b : Bool) (x y z : List (List ℕ)) → (if b then x else z) ≡ (if b then (if b then x else y) else z)
within true x y z = refl
within false x y z = refl

-- a statement of n tokens, which are counted as m
one_stmt : (to at n m : ℕ) (x y : List (List ℕ)) (next : ℕ → List (List ℕ)) → m ≡ n
    → (if nat_lt to (at + n) then x else next (at + n)) ≡ (if nat_lt to (at + m) then (if nat_lt to (at + n) then x else y) else next (at + m))
one_stmt to at n m x y next e =
    subst (λ k. (if nat_lt to (at + n) then x else next (at + n)) ≡ (if nat_lt to (at + k) then (if nat_lt to (at + n) then x else y) else next (at + k)))
    (sym e) (within (nat_lt to (at + n)) x y (next (at + n)))

-- the token stands in the statement, or behind it
abbrev pub split_at : Stmt → Code → ℕ → ℕ → List (List ℕ) → List (List ℕ)
split_at s c at to outer =
    if nat_lt to (at + code_tokens (before s done)) then locals_at (before s done) at to outer
    else locals_at c (at + code_tokens (before s done)) to (behind_stmt s outer)

locals_before : (s : Stmt) (c : Code) (at to : ℕ) (outer : List (List ℕ)) → locals_at (before s c) at to outer ≡ split_at s c at to outer
locals_before (Declare k w e) c at to outer =
    one_stmt to at (4 + term_tokens (term e)) (code_tokens (before (Declare k w e) done)) outer (outer ++ w ∷ [])
    (λ p. locals_at c p to (outer ++ w ∷ [])) (omega arith)
locals_before (Assign w e) c at to outer =
    one_stmt to at (3 + term_tokens (term e)) (code_tokens (before (Assign w e) done)) outer outer (λ p. locals_at c p to outer) (omega arith)
locals_before (If t y None) c at to outer =
    one_stmt to at (5 + term_tokens (term t) + code_tokens y) (code_tokens (before (If t y None) done))
    (locals_at y (at + (4 + term_tokens (term t))) to outer) outer (λ p. locals_at c p to outer) (omega arith)
locals_before (If t y (Some z)) c at to outer =
    one_stmt to at (8 + term_tokens (term t) + code_tokens y + code_tokens z) (code_tokens (before (If t y (Some z)) done))
    (if nat_lt to (at + (5 + term_tokens (term t) + code_tokens y)) then locals_at y (at + (4 + term_tokens (term t))) to outer
    else locals_at z (at + (7 + term_tokens (term t) + code_tokens y)) to outer) outer (λ p. locals_at c p to outer) (omega arith)
locals_before (While t b) c at to outer =
    one_stmt to at (5 + term_tokens (term t) + code_tokens b) (code_tokens (before (While t b) done))
    (locals_at b (at + (4 + term_tokens (term t))) to outer) outer (λ p. locals_at c p to outer) (omega arith)
locals_before (Each w e b) c at to outer =
    one_stmt to at (7 + term_tokens (term e) + code_tokens b) (code_tokens (before (Each w e b) done))
    (if nat_lt to (at + (6 + term_tokens (term e))) then outer else locals_at b (at + (6 + term_tokens (term e))) to (outer ++ w ∷ [])) outer
    (λ p. locals_at c p to outer) (omega arith)
locals_before (Block b) c at to outer =
    one_stmt to at (2 + code_tokens b) (code_tokens (before (Block b) done)) (locals_at b (at + 1) to outer) outer (λ p. locals_at c p to outer)
    (omega arith)
locals_before (Show p rs) c at to outer =
    one_stmt to at (2 + term_tokens (term p) + receive_tokens rs) (code_tokens (before (Show p rs) done)) outer outer (λ q. locals_at c q to outer)
    (omega arith)
locals_before (Exit p) c at to outer =
    one_stmt to at (2 + term_tokens (term p)) (code_tokens (before (Exit p) done)) outer outer (λ q. locals_at c q to outer) (omega arith)

pub locals_here : (xs : List Stmt) (i : ℕ) (x : Stmt) (at to : ℕ) (outer : List (List ℕ)) → x ≡ get_or xs i x → i < length xs
    → locals_at (code (drop i xs)) at to outer ≡ split_at x (code (drop (i + 1) xs)) at to outer
locals_here xs i x at to outer e h = at_drop_more (λ l. locals_at (code l) at to outer) xs i x h
    ∙ ap (λ (y : Stmt). locals_at (before y (code (drop (i + 1) xs))) at to outer) (sym e) ∙ locals_before x (code (drop (i + 1) xs)) at to outer

-- the token stands in the statement
pub locals_inside : (xs : List Stmt) (i : ℕ) (x : Stmt) (at to : ℕ) (outer : List (List ℕ)) → x ≡ get_or xs i x → i < length xs
    → to < at + code_tokens (before x done) → locals_at (code (drop i xs)) at to outer ≡ locals_at (before x done) at to outer
locals_inside xs i x at to outer e h l = locals_here xs i x at to outer e h
    ∙ ap (λ (b : Bool). if b then locals_at (before x done) at to outer
    else locals_at (code (drop (i + 1) xs)) (at + code_tokens (before x done)) to (behind_stmt x outer)) (lt-ltb to (at + code_tokens (before x done)) l)

-- the token stands behind the statement
pub locals_behind : (xs : List Stmt) (i : ℕ) (x : Stmt) (at to : ℕ) (outer : List (List ℕ)) → x ≡ get_or xs i x → i < length xs
    → at + code_tokens (before x done) ≤ to
    → locals_at (code (drop i xs)) at to outer ≡ locals_at (code (drop (i + 1) xs)) (at + code_tokens (before x done)) to (behind_stmt x outer)
locals_behind xs i x at to outer e h l = locals_here xs i x at to outer e h
    ∙ ap (λ (b : Bool). if b then locals_at (before x done) at to outer
    else locals_at (code (drop (i + 1) xs)) (at + code_tokens (before x done)) to (behind_stmt x outer)) (le-ltb to (at + code_tokens (before x done)) l)
