-- Going on from a show in the middle of a session's body.
use Rattle.std.specs.Prelude.{ℕ, ◌+◌, ◌==◌, nat_lt, if◌then◌else◌, List, [], ◌∷◌, map, slice_get, unwrap_or}
use Rattle.bw_lang.specs.declared.service.Service.{Service}
use Rattle.bw_lang.specs.declared.turn.TurnFault.TheVariants.{Spent}
use Rattle.bw_lang.specs.Service.Code.{Code, done, declare, assign, if_then, if_else, while_loop, block, for_each, show, exit, numbered}
use Rattle.bw_lang.specs.Service.Numbers.{first_number}
use Rattle.bw_meaning.specs.States.{Input, Outcome, Failed, Answered, Rests, budget}
use Rattle.bw_meaning.specs.Statements.{declared, taken, then_do, leave, add_rest, each, exec}
use Rattle.bw_meaning.specs.Values.{Values, list_weight}

-- the rest of the outermost foreach, and the other rests
abbrev pub with_rest : Rests → (List (List ℕ) → Rests → Outcome) → Outcome
with_rest [] go = Failed Spent 0
with_rest (vs ∷ inner) go = go vs inner

-- What comes behind an answered show that is one of these statements, up to their end. Where there is no such show it is
-- a failure.
abbrev pub go_on_behind : Service → Code → ℕ → ℕ → Answered → Outcome
go_on_behind service done n around a = Failed Spent 0
go_on_behind service (declare kind w e rest) n around a = go_on_behind service rest (n + 1) around a
go_on_behind service (assign w e rest) n around a = go_on_behind service rest (n + 1) around a
go_on_behind service (if_then t y rest) n around a =
    if nat_lt a.at (n + 1 + numbered y)
    then then_do (leave (declared y) (go_on_behind service y (n + 1) around a)) (exec service rest (n + 1 + numbered y) around)
    else go_on_behind service rest (n + 1 + numbered y) around a
go_on_behind service (if_else t y z rest) n around a =
    if nat_lt a.at (n + 1 + numbered y)
    then then_do (leave (declared y) (go_on_behind service y (n + 1) around a)) (exec service rest (n + 1 + numbered y + numbered z) around)
    else if nat_lt a.at (n + 1 + numbered y + numbered z)
    then then_do (leave (declared z) (go_on_behind service z (n + 1 + numbered y) around a)) (exec service rest (n + 1 + numbered y + numbered z) around)
    else go_on_behind service rest (n + 1 + numbered y + numbered z) around a
go_on_behind service (while_loop t b rest) n around a =
    if nat_lt a.at (n + 1 + numbered b)
    then then_do (leave (declared b) (go_on_behind service b (n + 1) around a)) (exec service (while_loop t b rest) n around)
    else go_on_behind service rest (n + 1 + numbered b) around a
go_on_behind service (block b rest) n around a =
    if nat_lt a.at (n + numbered b)
    then then_do (leave (declared b) (go_on_behind service b n around a)) (exec service rest (n + numbered b) around)
    else go_on_behind service rest (n + numbered b) around a
go_on_behind service (for_each w e b rest) n around a =
    if nat_lt a.at (n + 1 + numbered b)
    then then_do
    (with_rest a.rests (λ vs inner.
    then_do (leave (w ∷ declared b) (add_rest vs (go_on_behind service b (n + 1) (around + list_weight vs) (record a { rests = inner }))))
    (each vs w (w ∷ declared b) (λ more. exec service b (n + 1) (around + list_weight more)))))
    (exec service rest (n + 1 + numbered b) around)
    else go_on_behind service rest (n + 1 + numbered b) around a
go_on_behind service (show p rs rest) n around a =
    if a.at == n
    then exec service rest (n + 1) around (taken rs a.locals a.input a.later)
    else go_on_behind service rest (n + 1) around a
go_on_behind service (exit p rest) n around a = go_on_behind service rest (n + 1) around a

-- ---- a session's turns

-- the statements of the session at this place
abbrev pub body_of : Service → ℕ → Code
body_of service session = unwrap_or (slice_get (map (λ s. s.body) service.sessions) session) done

-- a session's whole body, from its first statement, over all its inputs
abbrev pub turn : Service → ℕ → Values → List Input → Outcome
turn service session first inputs =
    exec service (body_of service session) (first_number service session) 0 (record { locals = []; shared = first; units = budget; inputs = inputs })

-- the same session from an answered show on
abbrev pub go_on : Service → ℕ → Answered → Outcome
go_on service session a = go_on_behind service (body_of service session) (first_number service session) 0 a
