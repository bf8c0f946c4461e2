-- The points of a session, where each leads, and what facts about them have to obey.
use Rattle.std.specs.Prelude.{◌≡◌, ◌≢◌, ℕ, ◌+◌, true, List, [], ◌∷◌, ◌++◌}
use Rattle.std.specs.List.{AllPairs}
use Rattle.bw_lang.specs.declared.service.Service.{Service}
use Rattle.bw_lang.specs.Service.Code.{Code, done, declare, assign, if_then, if_else, while_loop, block, for_each, show, exit, numbered}
use Rattle.bw_lang.specs.Service.CodeNames.{local_names}
use Rattle.bw_lang.specs.Service.Term.{Term}
use Rattle.bw_meaning.specs.GoOn.{body_of}
use Rattle.bw_lang.specs.Service.Numbers.{first_number}
use Rattle.bw_cover.specs.Abstracts.{Html, Below, known, EachPair, IsNotLacked, IsPlug}
use Rattle.bw_cover.specs.Facts.{keeps, sets, brings, takes, Facts, look, Edge, edge, EachLeads}

-- a point: that of the statement of a number, or the join of the `if` of a number. Behind a session's end, at `out`, no point stands
pub data Spot : Type 0 where
  statement : ℕ → Spot
  meeting : ℕ → Spot
  out : Spot

-- where statements begin, the first of which has number n: at its point or, where there is none, at q behind them
abbrev pub starts : Code → ℕ → Spot → Spot
starts done n q = q
starts (declare kind w e rest) n q = statement n
starts (assign w e rest) n q = statement n
starts (if_then t y rest) n q = statement n
starts (if_else t y z rest) n q = statement n
starts (while_loop t b rest) n q = statement n
starts (block b rest) n q = starts b n (starts rest (n + numbered b) q)
starts (for_each w e b rest) n q = statement n
starts (show e rs rest) n q = statement n
starts (exit e rest) n q = statement n

-- Each point with those that it leads to: the next point in order; from an `if` each branch, or straight its join; from
-- a branch's end the join; from a `while` or a `foreach` its body, and past it; from the body's end the `while` or the
-- `foreach`; from `exit` nothing.
abbrev pub edges : Code → ℕ → Spot → List (Edge Spot)
edges done n q = []
edges (declare kind w e rest) n q = edge (statement n) (sets w e) (starts rest (n + 1) q) ∷ edges rest (n + 1) q
edges (assign w e rest) n q = edge (statement n) (sets w e) (starts rest (n + 1) q) ∷ edges rest (n + 1) q
edges (if_then t y rest) n q =
    edge (statement n) keeps (starts y (n + 1) (meeting n)) ∷ edge (statement n) keeps (meeting n)
    ∷ (edges y (n + 1) (meeting n) ++ edge (meeting n) keeps (starts rest (n + 1 + numbered y) q) ∷ edges rest (n + 1 + numbered y) q)
edges (if_else t y z rest) n q =
    edge (statement n) keeps (starts y (n + 1) (meeting n)) ∷ edge (statement n) keeps (starts z (n + 1 + numbered y) (meeting n))
    ∷ (edges y (n + 1) (meeting n) ++ (edges z (n + 1 + numbered y) (meeting n)
    ++ edge (meeting n) keeps (starts rest (n + 1 + numbered y + numbered z) q) ∷ edges rest (n + 1 + numbered y + numbered z) q))
edges (while_loop t b rest) n q =
    edge (statement n) keeps (starts b (n + 1) (statement n)) ∷ edge (statement n) keeps (starts rest (n + 1 + numbered b) q)
    ∷ (edges b (n + 1) (statement n) ++ edges rest (n + 1 + numbered b) q)
edges (block b rest) n q = edges b n (starts rest (n + numbered b) q) ++ edges rest (n + numbered b) q
edges (for_each w e b rest) n q =
    edge (statement n) (brings w) (starts b (n + 1) (statement n)) ∷ edge (statement n) keeps (starts rest (n + 1 + numbered b) q)
    ∷ (edges b (n + 1) (statement n) ++ edges rest (n + 1 + numbered b) q)
edges (show e rs rest) n q = edge (statement n) (takes rs) (starts rest (n + 1) q) ∷ edges rest (n + 1) q
edges (exit e rest) n q = edges rest (n + 1) q

-- the scopes at the points are those of the tree, where these locals are in scope in front of it
abbrev pub Scoped : Facts Spot → Code → ℕ → List (List ℕ) → Type 0
Scoped f done n scope = Unit {0}
Scoped f (declare kind w e rest) n scope = (f.scope (statement n) ≡ scope) × Scoped f rest (n + 1) (scope ++ w ∷ [])
Scoped f (assign w e rest) n scope = (f.scope (statement n) ≡ scope) × Scoped f rest (n + 1) scope
Scoped f (if_then t y rest) n scope = (f.scope (statement n) ≡ scope) × (f.scope (meeting n) ≡ scope) × Scoped f y (n + 1) scope
    × Scoped f rest (n + 1 + numbered y) scope
Scoped f (if_else t y z rest) n scope =
    (f.scope (statement n) ≡ scope) × (f.scope (meeting n) ≡ scope) × Scoped f y (n + 1) scope × Scoped f z (n + 1 + numbered y) scope
    × Scoped f rest (n + 1 + numbered y + numbered z) scope
Scoped f (while_loop t b rest) n scope = (f.scope (statement n) ≡ scope) × Scoped f b (n + 1) scope × Scoped f rest (n + 1 + numbered b) scope
Scoped f (block b rest) n scope = Scoped f b n scope × Scoped f rest (n + numbered b) scope
Scoped f (for_each w e b rest) n scope = (f.scope (statement n) ≡ scope) × Scoped f b (n + 1) (scope ++ w ∷ []) × Scoped f rest (n + 1 + numbered b) scope
Scoped f (show e rs rest) n scope = (f.scope (statement n) ≡ scope) × Scoped f rest (n + 1) scope
Scoped f (exit e rest) n scope = (f.scope (statement n) ≡ scope) × Scoped f rest (n + 1) scope

-- the summary that is given for each show and exit has all that is known of its document
abbrev pub Pages : Service → Facts Spot → Code → ℕ → Type 0
Pages service f done n = Unit {0}
Pages service f (declare kind w e rest) n = Pages service f rest (n + 1)
Pages service f (assign w e rest) n = Pages service f rest (n + 1)
Pages service f (if_then t y rest) n = Pages service f y (n + 1) × Pages service f rest (n + 1 + numbered y)
Pages service f (if_else t y z rest) n = Pages service f y (n + 1) × Pages service f z (n + 1 + numbered y)
    × Pages service f rest (n + 1 + numbered y + numbered z)
Pages service f (while_loop t b rest) n = Pages service f b (n + 1) × Pages service f rest (n + 1 + numbered b)
Pages service f (block b rest) n = Pages service f b n × Pages service f rest (n + numbered b)
Pages service f (for_each w e b rest) n = Pages service f b (n + 1) × Pages service f rest (n + 1 + numbered b)
Pages service f (show e rs rest) n =
    Below (known service (look service f (statement n)) e) (Html (f.shown (statement n))) × (f.place n ≡ statement n) × Pages service f rest (n + 1)
Pages service f (exit e rest) n =
    Below (known service (look service f (statement n)) e) (Html (f.shown (statement n))) × (f.is_exit (statement n) ≡ true) × Pages service f rest (n + 1)

-- holds of each point that evaluates an expression, and of this
abbrev pub EachPoint : (Spot → Term → Type 0) → Code → ℕ → Type 0
EachPoint P done n = Unit {0}
EachPoint P (declare kind w e rest) n = P (statement n) e × EachPoint P rest (n + 1)
EachPoint P (assign w e rest) n = P (statement n) e × EachPoint P rest (n + 1)
EachPoint P (if_then t y rest) n = P (statement n) t × EachPoint P y (n + 1) × EachPoint P rest (n + 1 + numbered y)
EachPoint P (if_else t y z rest) n = P (statement n) t × EachPoint P y (n + 1) × EachPoint P z (n + 1 + numbered y)
    × EachPoint P rest (n + 1 + numbered y + numbered z)
EachPoint P (while_loop t b rest) n = P (statement n) t × EachPoint P b (n + 1) × EachPoint P rest (n + 1 + numbered b)
EachPoint P (block b rest) n = EachPoint P b n × EachPoint P rest (n + numbered b)
EachPoint P (for_each w e b rest) n = P (statement n) e × EachPoint P b (n + 1) × EachPoint P rest (n + 1 + numbered b)
EachPoint P (show e rs rest) n = P (statement n) e × EachPoint P rest (n + 1)
EachPoint P (exit e rest) n = P (statement n) e × EachPoint P rest (n + 1)

-- the facts solve the system of a session
pub record Solves (service : Service) (f : Facts Spot) (session : ℕ) : Type 0 where
  pub scoped : Scoped f (body_of service session) (first_number service session) []
  pub pages : Pages service f (body_of service session) (first_number service session)
  pub leads : EachLeads service f (edges (body_of service session) (first_number service session) out)

-- no gap fault: at no point a plug's base may lack its gap
abbrev pub HasNoGapFault : Service → Facts Spot → ℕ → Type 0
HasNoGapFault service f session =
    EachPoint (λ p e. EachPair IsNotLacked service (look service f p) e) (body_of service session) (first_number service session)

-- what typing gives: the plugs fill gaps of documents that take what fills them, and the session's locals have names of their own
pub record IsKinded (service : Service) (f : Facts Spot) (session : ℕ) : Type 0 where
  pub plugs : EachPoint (λ p e. EachPair (IsPlug service) service (look service f p) e) (body_of service session) (first_number service session)
  pub differ : AllPairs (λ v w. v ≢ w) (local_names (body_of service session))
