-- Which point leads to which, read from the statements. It knows no places and no flow.
use Rattle.std.specs.Prelude.{◌≡◌, ℕ, ◌+◌, List, [], ◌∷◌, ◌++◌, Option, Some, None, slice_get, option_map, if◌then◌else◌}
use Rattle.bw_lang.specs.declared.service.Session.{Session}
use Rattle.bw_lang.specs.Service.Code.{Code, done, declare, assign, if_then, if_else, while_loop, for_each, block, show, exit, numbered}
use Rattle.bw_lang.specs.declared.service.Service.{Service}
use Rattle.bw_flow.specs.Flows.{is_join}
use Rattle.bw_flow.specs.Layout.{plan_of}
use Rattle.bw_flow.specs.Places.{Among}
use Rattle.bw_flow.specs.Stands.{IsAt}
use Rattle.bw_flow.specs.Steps.{Step}

-- a point: that of the statement of a number, or the join of the `if` of a number
pub data Spot : Type 0 where
  statement : ℕ → Spot
  meeting : ℕ → Spot

-- the first point of statements, the first of which has number n, or what comes behind them
abbrev pub starts : Code → ℕ → Option Spot → Option Spot
starts done n q = q
starts (declare k w e rest) n q = Some (statement n)
starts (assign w e rest) n q = Some (statement n)
starts (if_then e y rest) n q = Some (statement n)
starts (if_else e y o rest) n q = Some (statement n)
starts (while_loop e b rest) n q = Some (statement n)
starts (for_each w e b rest) n q = Some (statement n)
starts (block b rest) n q = starts b n (starts rest (n + numbered b) q)
starts (show e rs rest) n q = Some (statement n)
starts (exit e rest) n q = Some (statement n)

-- from this point to that one, if there is one
abbrev pub from : Spot → Option Spot → List (Spot × Spot)
from a None = []
from a (Some b) = (a, b) ∷ []

-- Each point with those that it leads to: the next point in order; from an `if` each branch, or straight its join; from
-- a branch's end the join; from a `while` or `foreach` its body, and past it; from the body's end the `while` or
-- `foreach`; from `exit` nothing.
abbrev pub leads : Code → ℕ → Option Spot → List (Spot × Spot)
leads done n q = []
leads (declare k w e rest) n q = from (statement n) (starts rest (n + 1) q) ++ leads rest (n + 1) q
leads (assign w e rest) n q = from (statement n) (starts rest (n + 1) q) ++ leads rest (n + 1) q
leads (if_then e y rest) n q =
    let behind = n + 1 + numbered y in let join = Some (meeting n) in
    (from (statement n) (starts y (n + 1) join) ++ from (statement n) join)
    ++ (leads y (n + 1) join ++ (from (meeting n) (starts rest behind q) ++ leads rest behind q))
leads (if_else e y o rest) n q =
    let other = n + 1 + numbered y in let behind = other + numbered o in let join = Some (meeting n) in
    (from (statement n) (starts y (n + 1) join) ++ from (statement n) (starts o other join))
    ++ (leads y (n + 1) join ++ (leads o other join ++ (from (meeting n) (starts rest behind q) ++ leads rest behind q)))
leads (while_loop e b rest) n q =
    let behind = n + 1 + numbered b in let head = Some (statement n) in
    (from (statement n) (starts b (n + 1) head) ++ from (statement n) (starts rest behind q)) ++ (leads b (n + 1) head ++ leads rest behind q)
leads (for_each w e b rest) n q =
    let behind = n + 1 + numbered b in let head = Some (statement n) in
    (from (statement n) (starts b (n + 1) head) ++ from (statement n) (starts rest behind q)) ++ (leads b (n + 1) head ++ leads rest behind q)
leads (block b rest) n q = leads b n (starts rest (n + numbered b) q) ++ leads rest (n + numbered b) q
leads (show e rs rest) n q = from (statement n) (starts rest (n + 1) q) ++ leads rest (n + 1) q
leads (exit e rest) n q = leads rest (n + 1) q

-- behind a session's end comes nothing
abbrev pub service_leads : List Session → ℕ → List (Spot × Spot)
service_leads [] n = []
service_leads (s ∷ ss) n = leads s.body n None ++ service_leads ss (n + numbered s.body)

-- which point it is
abbrev pub spot_of : Step → Spot
spot_of x = if is_join x.act then meeting x.number else statement x.number

-- which point stands at a place
abbrev pub spot_at : List Step → ℕ → Option Spot
spot_at flow p = option_map spot_of (slice_get flow p)

-- from this point to those at these places
abbrev pub from_to : List Step → Spot → List ℕ → List (Spot × Spot)
from_to flow a [] = []
from_to flow a (q ∷ qs) = from a (spot_at flow q) ++ from_to flow a qs

-- each of these points with those that come next in the flow
abbrev pub nexts : List Step → List Step → List (Spot × Spot)
nexts flow [] = []
nexts flow (x ∷ xs) = from_to flow (spot_of x) x.next ++ nexts flow xs

-- the points that come next in the flow are those that the statements say
abbrev pub LeadsAgree : Type 0
LeadsAgree = (service : Service) → let flow = (plan_of service).steps in nexts flow flow ≡ service_leads service.sessions 1

-- `leads` of two points holds exactly where the second is among those that come next at the first
abbrev pub LeadsAreNexts : Type 0
LeadsAreNexts =
    (service : Service) (p q : ℕ) (x y : Step) → let flow = (plan_of service).steps in let pair : Spot × Spot = (spot_of x, spot_of y) in
    IsAt flow p x → IsAt flow q y →
    (Among q x.next → Among pair (service_leads service.sessions 1)) × (Among pair (service_leads service.sessions 1) → Among q x.next)

-- no two points are the same statement's or the same join
abbrev pub SpotsDiffer : Type 0
SpotsDiffer =
    (service : Service) (p q : ℕ) (x y : Step) → let flow = (plan_of service).steps in
    IsAt flow p x → IsAt flow q y → spot_of x ≡ spot_of y → p ≡ q
