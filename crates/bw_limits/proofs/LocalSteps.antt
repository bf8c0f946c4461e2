-- Laws of counting locals.
use Rattle.std.proofs.Common.{◌≡◌, ℕ, ◌+◌, ◌<◌, ◌≤◌, List, [], ◌∷◌, ◌++◌, length, get_or, take, drop, Option, Some, None, refl, sym, ap, ◌∙◌, arith}
use Rattle.std.proofs.Common.{append_assoc, append-nil, length-append}
use Rattle.std.proofs.lemmas.List.{take_more, take-append-drop}
use Rattle.bw_lang.specs.declared.stmt.Stmt.{Stmt}
use Rattle.bw_lang.specs.Service.Code.{Code, done, declare, assign, if_then, if_else, while_loop, block, for_each, show, exit, append}
use Rattle.bw_lang.specs.Service.CodeView.{code, before}
use Rattle.bw_lang.specs.Service.CodeNames.{local_names}
use Rattle.bw_lang.proofs.Codes.{code-append, statements_take}

local_names-append : (a b : Code) → local_names (append a b) ≡ local_names a ++ local_names b
local_names-append done b = refl
local_names-append (declare t w e r) b = ap (λ l. w ∷ l) (local_names-append r b)
local_names-append (assign w e r) b = local_names-append r b
local_names-append (if_then t y r) b = rw (local_names-append r b) (simp append_assoc)
local_names-append (if_else t y n r) b = rw (local_names-append r b) (simp append_assoc)
local_names-append (while_loop t i r) b = rw (local_names-append r b) (simp append_assoc)
local_names-append (for_each w e i r) b = rw (local_names-append r b) (simp append_assoc)
local_names-append (block i r) b = rw (local_names-append r b) (simp append_assoc)
local_names-append (show p rs r) b = local_names-append r b
local_names-append (exit p r) b = local_names-append r b

-- how many there are
abbrev pub locals : Code → ℕ
locals c = length (local_names c)

locals-append : (a b : Code) → locals (append a b) ≡ locals a + locals b
locals-append a b = ap length (local_names-append a b) ∙ length-append (local_names a) (local_names b)

-- one statement more
pub locals_at_read : (xs : List Stmt) (i : ℕ) (d : Stmt) → i < length xs
    → (get_or xs i d ≡ get_or xs i d) × (locals (code (take (i + 1) xs)) ≡ locals (code (take i xs)) + locals (before (get_or xs i d) done))
locals_at_read xs i d h = (refl, ap locals (statements_take xs i d h) ∙ locals-append (code (take i xs)) (before (get_or xs i d) done))

-- a statement's locals, and those before it, are among all
pub locals_room : (xs : List Stmt) (i : ℕ) (d : Stmt) → i < length xs
    → (get_or xs i d ≡ get_or xs i d) × (locals (code (take i xs)) + locals (before (get_or xs i d) done) ≤ locals (code xs))
locals_room xs i d h = (
  refl,
  omega (
    arith,
    (locals_at_read xs i d h).1,
    locals-append (code (take (i + 1) xs)) (code (drop (i + 1) xs)),
    ap locals (sym (code-append (take (i + 1) xs) (drop (i + 1) xs)) ∙ ap code (take-append-drop (i + 1) xs)),
  ),
)

pub ruleset local_steps = (locals_at_read, locals_room, length-append)
