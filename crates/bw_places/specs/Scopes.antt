-- Which locals are in scope at a token of a session. Tokens are counted from 0.
use Rattle.std.specs.Prelude.{ℕ, ◌+◌, nat_lt, if◌then◌else◌, List, [], ◌∷◌, ◌++◌}
use Rattle.bw_lang.specs.declared.stmt.Stmt.{Stmt}
use Rattle.bw_lang.specs.declared.stmt.Stmt.TheVariants.{Declare}
use Rattle.bw_lang.specs.Service.Code.{Code, done, declare, assign, if_then, if_else, while_loop, block, for_each, show, exit}
use Rattle.bw_places.specs.Counts.{term_tokens, receive_tokens, code_tokens}

-- At the token `to`, in code whose first token is `at`, where these are in scope: a declared local is in scope behind its
-- statement, that of a foreach in its body, and none behind its block.
abbrev pub locals_at : Code → ℕ → ℕ → List (List ℕ) → List (List ℕ)
locals_at done at to outer = outer
locals_at (declare kind w e rest) at to outer =
    if nat_lt to (at + (4 + term_tokens e)) then outer else locals_at rest (at + (4 + term_tokens e)) to (outer ++ w ∷ [])
locals_at (assign w e rest) at to outer =
    if nat_lt to (at + (3 + term_tokens e)) then outer else locals_at rest (at + (3 + term_tokens e)) to outer
locals_at (if_then t y rest) at to outer =
    if nat_lt to (at + (5 + term_tokens t + code_tokens y)) then locals_at y (at + (4 + term_tokens t)) to outer
    else locals_at rest (at + (5 + term_tokens t + code_tokens y)) to outer
locals_at (if_else t y z rest) at to outer =
    if nat_lt to (at + (8 + term_tokens t + code_tokens y + code_tokens z))
    then (if nat_lt to (at + (5 + term_tokens t + code_tokens y)) then locals_at y (at + (4 + term_tokens t)) to outer
    else locals_at z (at + (7 + term_tokens t + code_tokens y)) to outer)
    else locals_at rest (at + (8 + term_tokens t + code_tokens y + code_tokens z)) to outer
locals_at (while_loop t b rest) at to outer =
    if nat_lt to (at + (5 + term_tokens t + code_tokens b)) then locals_at b (at + (4 + term_tokens t)) to outer
    else locals_at rest (at + (5 + term_tokens t + code_tokens b)) to outer
locals_at (block b rest) at to outer =
    if nat_lt to (at + (2 + code_tokens b)) then locals_at b (at + 1) to outer else locals_at rest (at + (2 + code_tokens b)) to outer
locals_at (for_each w e b rest) at to outer =
    if nat_lt to (at + (7 + term_tokens e + code_tokens b))
    then (if nat_lt to (at + (6 + term_tokens e)) then outer else locals_at b (at + (6 + term_tokens e)) to (outer ++ w ∷ []))
    else locals_at rest (at + (7 + term_tokens e + code_tokens b)) to outer
locals_at (show p rs rest) at to outer =
    if nat_lt to (at + (2 + term_tokens p + receive_tokens rs)) then outer
    else locals_at rest (at + (2 + term_tokens p + receive_tokens rs)) to outer
locals_at (exit p rest) at to outer =
    if nat_lt to (at + (2 + term_tokens p)) then outer else locals_at rest (at + (2 + term_tokens p)) to outer

-- what is in scope behind a statement, where these are in scope at it
abbrev pub behind_stmt : Stmt → List (List ℕ) → List (List ℕ)
behind_stmt (Declare kind w e) outer = outer ++ w ∷ []
behind_stmt stmt outer = outer
