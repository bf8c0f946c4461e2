-- A flow stands for the statements of sessions.
use Rattle.std.specs.Prelude.{◌≡◌, ℕ, ◌+◌, List, [], ◌∷◌, Some, slice_get, length}
use Rattle.bw_lang.specs.declared.service.Session.{Session}
use Rattle.bw_lang.specs.declared.stmt.Kind.TheVariants as kinds
use Rattle.bw_lang.specs.Service.Code.{Code, done, declare, assign, if_then, if_else, while_loop, for_each, block, show, exit, numbered}
use Rattle.bw_lang.specs.declared.service.Service.{Service}
use Rattle.bw_flow.specs.declared.point.Local.{Local}
use Rattle.bw_flow.specs.Layout.{step, receives, plan_of}
use Rattle.bw_flow.specs.Scopes.{with_local}
use Rattle.bw_flow.specs.Steps.{sets, tests, goes_over, shows, exits, joins, Step}

-- this point stands at that place
abbrev pub IsAt : List Step → ℕ → Step → Type 0
IsAt flow p x = slice_get flow p ≡ Some x

-- The flow stands for the statements, of which the first has number n, this scope in front of it and d foreachs around
-- it, from place p to place q. It says nothing of how the places are chosen.
abbrev pub Lowered : Service → (flow : List Step) → Code → (number : ℕ) → (scope : List Local) → (around place next : ℕ) → Type 0
Lowered service flow done n scope d p q = p ≡ q
Lowered service flow (declare k w e rest) n scope d p q =
    (r : ℕ) × IsAt flow p (step n scope d (sets w e) (r ∷ [])) × Lowered service flow rest (n + 1) (with_local scope w k) d r q
Lowered service flow (assign w e rest) n scope d p q =
    (r : ℕ) × IsAt flow p (step n scope d (sets w e) (r ∷ [])) × Lowered service flow rest (n + 1) scope d r q
Lowered service flow (if_then e y rest) n scope d p q =
    (b : ℕ) × (j : ℕ) × (r : ℕ) × IsAt flow p (step n scope d (tests e) (b ∷ j ∷ [])) × IsAt flow j (step n scope d joins (r ∷ []))
    × Lowered service flow y (n + 1) scope d b j × Lowered service flow rest (n + 1 + numbered y) scope d r q
Lowered service flow (if_else e y o rest) n scope d p q =
    (b : ℕ) × (c : ℕ) × (j : ℕ) × (r : ℕ) × IsAt flow p (step n scope d (tests e) (b ∷ c ∷ [])) × IsAt flow j (step n scope d joins (r ∷ []))
    × Lowered service flow y (n + 1) scope d b j × Lowered service flow o (n + 1 + numbered y) scope d c j
    × Lowered service flow rest (n + 1 + numbered y + numbered o) scope d r q
Lowered service flow (while_loop e b rest) n scope d p q =
    (y : ℕ) × (r : ℕ) × IsAt flow p (step n scope d (tests e) (y ∷ r ∷ [])) × Lowered service flow b (n + 1) scope d y p
    × Lowered service flow rest (n + 1 + numbered b) scope d r q
Lowered service flow (for_each w e b rest) n scope d p q =
    (y : ℕ) × (r : ℕ) × IsAt flow p (step n scope d (goes_over w e) (y ∷ r ∷ []))
    × Lowered service flow b (n + 1) (with_local scope w kinds.Str) (d + 1) y p × Lowered service flow rest (n + 1 + numbered b) scope d r q
Lowered service flow (block b rest) n scope d p q = (r : ℕ) × Lowered service flow b n scope d p r × Lowered service flow rest (n + numbered b) scope d r q
Lowered service flow (show e rs rest) n scope d p q =
    (r : ℕ) × IsAt flow p (step n scope d (shows e (receives service scope rs)) (r ∷ [])) × Lowered service flow rest (n + 1) scope d r q
Lowered service flow (exit e rest) n scope d p q = (r : ℕ) × IsAt flow p (step n scope d (exits e) []) × Lowered service flow rest (n + 1) scope d r q

-- the flow stands for each session from its first point on; behind a session's end is the place `out`
abbrev pub AllLowered : Service → List Step → List Session → List ℕ → ℕ → ℕ → Type 0
AllLowered service flow [] [] n out = Unit {0}
AllLowered service flow (s ∷ ss) (f ∷ fs) n out = Lowered service flow s.body n [] 0 f out × AllLowered service flow ss fs (n + numbered s.body) out
AllLowered service flow _ _ n out = ⊥

-- the flow of a service stands for its sessions
abbrev pub StandsForAll : Type 0
StandsForAll = (service : Service) → let plan = plan_of service in AllLowered service plan.steps service.sessions plan.firsts 1 (length plan.steps)
