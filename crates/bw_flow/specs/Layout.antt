-- The points of statements: one for each statement other than a block, in source order, and one for each `if`, behind
-- its branches, where they meet.
use Rattle.std.specs.Prelude.{ℕ, ◌+◌, List, [], ◌∷◌, ◌++◌, map}
use Rattle.bw_lang.specs.declared.service.Service.{Service}
use Rattle.bw_lang.specs.declared.service.Session.{Session}
use Rattle.bw_lang.specs.declared.stmt.Kind.TheVariants as kinds
use Rattle.bw_lang.specs.declared.stmt.Receive.{Receive}
use Rattle.bw_lang.specs.Service.Code.{Code, done, declare, assign, if_then, if_else, while_loop, for_each, block, show, exit, numbered}
use Rattle.bw_lang.specs.Table.Names.{name_number, with_names}
use Rattle.bw_types.specs.Fields.{field_names}
use Rattle.bw_flow.specs.declared.point.Local.{Local}
use Rattle.bw_flow.specs.declared.point.Received.{Received}
use Rattle.bw_flow.specs.Scopes.{target_kind, with_local}
use Rattle.bw_flow.specs.Steps.{Act, sets, tests, goes_over, shows, exits, joins, Step, Plan}

-- how many points the statements have
abbrev pub count : Code → ℕ
count done = 0
count (declare k w e rest) = 1 + count rest
count (assign w e rest) = 1 + count rest
count (if_then e y rest) = 2 + count y + count rest
count (if_else e y o rest) = 2 + count y + count o + count rest
count (while_loop e b rest) = 1 + count b + count rest
count (for_each w e b rest) = 1 + count b + count rest
count (block b rest) = count b + count rest
count (show e rs rest) = 1 + count rest
count (exit e rest) = 1 + count rest

-- the point where statements begin whose points stand from place p on: q, which comes behind them, where they have none
abbrev pub enter : Code → ℕ → ℕ → ℕ
enter done p q = q
enter (declare k w e rest) p q = p
enter (assign w e rest) p q = p
enter (if_then e y rest) p q = p
enter (if_else e y o rest) p q = p
enter (while_loop e b rest) p q = p
enter (for_each w e b rest) p q = p
enter (block b rest) p q = enter b p (enter rest (p + count b) q)
enter (show e rs rest) p q = p
enter (exit e rest) p q = p

-- the locals in scope behind the statements
abbrev pub after : Code → List Local → List Local
after done scope = scope
after (declare k w e rest) scope = after rest (with_local scope w k)
after (assign w e rest) scope = after rest scope
after (if_then e y rest) scope = after rest scope
after (if_else e y o rest) scope = after rest scope
after (while_loop e b rest) scope = after rest scope
after (for_each w e b rest) scope = after rest scope
after (block b rest) scope = after rest scope
after (show e rs rest) scope = after rest scope
after (exit e rest) scope = after rest scope

-- the number of a field: its place among the names of all fields
abbrev pub number_of_field : Service → List ℕ → ℕ
number_of_field service w = name_number (with_names [] (field_names service)) w

-- a field that a show receives, with the kind of its target and its number
abbrev pub received : Service → List Local → Receive → Received
received service scope r = record { target = r.target; kind = target_kind service scope r.target; field = r.field; id = number_of_field service r.field }

-- all of them, in source order
abbrev pub receives : Service → List Local → List Receive → List Received
receives service scope rs = map (received service scope) rs

-- the point of the statement of number n, with this scope in front of it and d foreachs around it
abbrev pub step : ℕ → List Local → ℕ → Act → List ℕ → Step
step n scope d act next = record { number = n; scope = scope; inside = d; act = act; next = next }

-- The points of statements, from place p on, of which the first has number n, this scope in front of it and d foreachs
-- around it. At the end they lead to place q.
abbrev pub steps : Service → Code → (number : ℕ) → (scope : List Local) → (around place next : ℕ) → List Step
steps service done n scope d p q = []
steps service (declare k w e rest) n scope d p q =
    step n scope d (sets w e) (enter rest (p + 1) q ∷ []) ∷ steps service rest (n + 1) (with_local scope w k) d (p + 1) q
steps service (assign w e rest) n scope d p q = step n scope d (sets w e) (enter rest (p + 1) q ∷ []) ∷ steps service rest (n + 1) scope d (p + 1) q
steps service (if_then e y rest) n scope d p q =
    let join = p + 1 + count y in
    step n scope d (tests e) (enter y (p + 1) join ∷ join ∷ [])
    ∷ (steps service y (n + 1) scope d (p + 1) join
    ++ (step n scope d joins (enter rest (join + 1) q ∷ [])
    ∷ steps service rest (n + 1 + numbered y) scope d (join + 1) q))
steps service (if_else e y o rest) n scope d p q =
    let other = p + 1 + count y in
    let join = other + count o in
    step n scope d (tests e) (enter y (p + 1) join ∷ enter o other join ∷ [])
    ∷ (steps service y (n + 1) scope d (p + 1) join
    ++ (steps service o (n + 1 + numbered y) scope d other join
    ++ (step n scope d joins (enter rest (join + 1) q ∷ [])
    ∷ steps service rest (n + 1 + numbered y + numbered o) scope d (join + 1) q)))
steps service (while_loop e b rest) n scope d p q =
    let behind = p + 1 + count b in
    step n scope d (tests e) (enter b (p + 1) p ∷ enter rest behind q ∷ [])
    ∷ (steps service b (n + 1) scope d (p + 1) p ++ steps service rest (n + 1 + numbered b) scope d behind q)
steps service (for_each w e b rest) n scope d p q =
    let behind = p + 1 + count b in
    step n scope d (goes_over w e) (enter b (p + 1) p ∷ enter rest behind q ∷ [])
    ∷ (steps service b (n + 1) (with_local scope w kinds.Str) (d + 1) (p + 1) p ++ steps service rest (n + 1 + numbered b) scope d behind q)
steps service (block b rest) n scope d p q =
    steps service b n scope d p (enter rest (p + count b) q) ++ steps service rest (n + numbered b) scope d (p + count b) q
steps service (show e rs rest) n scope d p q =
    step n scope d (shows e (receives service scope rs)) (enter rest (p + 1) q ∷ []) ∷ steps service rest (n + 1) scope d (p + 1) q
steps service (exit e rest) n scope d p q = step n scope d (exits e) [] ∷ steps service rest (n + 1) scope d (p + 1) q

-- The points of sessions, from place p on, the first of number n. A body ends in `exit`; what would follow behind its end
-- is the place `out`, at which no point stands.
abbrev pub session_steps : Service → List Session → (number place out : ℕ) → List Step
session_steps service [] n p out = []
session_steps service (s ∷ ss) n p out = steps service s.body n [] 0 p out ++ session_steps service ss (n + numbered s.body) (p + count s.body) out

-- the places where sessions begin
abbrev pub session_firsts : List Session → ℕ → ℕ → List ℕ
session_firsts [] p out = []
session_firsts (s ∷ ss) p out = enter s.body p out ∷ session_firsts ss (p + count s.body) out

-- how many points a service has
abbrev pub points : List Session → ℕ
points [] = 0
points (s ∷ ss) = count s.body + points ss

-- the flow of a service
abbrev pub plan_of : Service → Plan
plan_of service = record {
  steps = session_steps service service.sessions 1 0 (points service.sessions);
  firsts = session_firsts service.sessions 0 (points service.sessions);
}

-- the points of a service
abbrev pub flow_of : Service → List Step
flow_of service = (plan_of service).steps
