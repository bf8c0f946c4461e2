-- The facts of a service that are read from its tree: scopes, pages and exits. What is left open are the cells.
use Rattle.std.specs.Prelude.{ℕ, ◌+◌, ◌==◌, Bool, true, false, nat_lt, if◌then◌else◌, List, [], ◌∷◌, ◌++◌}
use Rattle.bw_lang.specs.declared.service.Service.{Service}
use Rattle.bw_lang.specs.declared.service.Session.{Session}
use Rattle.bw_lang.specs.declared.stmt.Kind.{Kind}
use Rattle.bw_lang.specs.Service.Code.{Code, done, declare, assign, if_then, if_else, while_loop, block, for_each, show, exit, numbered}
use Rattle.bw_lang.specs.Service.Reads.{IsReadable}
use Rattle.bw_lang.specs.Service.Term.{Term, nothing}
use Rattle.bw_types.specs.Scopes.{Scope, no_locals, with_local, scope_behind, behind_each}
use Rattle.bw_types.specs.Faults.{IsWellTyped}
use Rattle.bw_cover.specs.Abstracts.{known}
use Rattle.bw_cover.specs.Facts.{Facts, look}
use Rattle.bw_cover.specs.Kinds.{summary_of}
use Rattle.bw_cover.specs.Least.{Cells, same_spot, IsLeast, service_edges}
use Rattle.bw_cover.specs.LeastKinds.{AreKinded}
use Rattle.bw_cover.specs.Spots.{Spot, statement, meeting, out, HasNoGapFault}
use Rattle.bw_cover.specs.Worlds.{CoversEmpty, CoversReached}
use Rattle.bw_cover.specs.Sound.{AcceptsAll}
use Rattle.bw_lang.specs.declared.stmt.Kind.TheVariants as kinds

-- a statement: the scope in front of it, its expression, and whether it is an exit
pub record Place : Type 0 where
  pub scope : Scope
  pub term : Term
  pub exits : Bool

-- the place of a statement with this scope, expression and end
abbrev pub place : Scope → Term → Bool → Place
place scope e exits = record { scope = scope; term = e; exits = exits }

-- where no statement stands
abbrev pub nowhere : Place
nowhere = place no_locals nothing false

-- the statement of number k among these, the first of which has number n and this scope in front of it
abbrev pub place_in : Code → ℕ → Scope → ℕ → Place
place_in done n scope k = nowhere
place_in (declare kind w e rest) n scope k = if k == n then place scope e false else place_in rest (n + 1) (with_local scope w kind) k
place_in (assign w e rest) n scope k = if k == n then place scope e false else place_in rest (n + 1) scope k
place_in (if_then t y rest) n scope k =
    if k == n then place scope t false
    else if nat_lt k (n + 1 + numbered y) then place_in y (n + 1) scope k else place_in rest (n + 1 + numbered y) (scope_behind scope y) k
place_in (if_else t y z rest) n scope k =
    if k == n then place scope t false
    else if nat_lt k (n + 1 + numbered y) then place_in y (n + 1) scope k
    else if nat_lt k (n + 1 + numbered y + numbered z) then place_in z (n + 1 + numbered y) (scope_behind scope y) k
    else place_in rest (n + 1 + numbered y + numbered z) (scope_behind (scope_behind scope y) z) k
place_in (while_loop t b rest) n scope k =
    if k == n then place scope t false
    else if nat_lt k (n + 1 + numbered b) then place_in b (n + 1) scope k else place_in rest (n + 1 + numbered b) (scope_behind scope b) k
place_in (block b rest) n scope k = if nat_lt k (n + numbered b) then place_in b n scope k else place_in rest (n + numbered b) (scope_behind scope b) k
place_in (for_each w e b rest) n scope k =
    if k == n then place scope e false
    else if nat_lt k (n + 1 + numbered b) then place_in b (n + 1) (with_local scope w kinds.Str) k else place_in rest (n + 1 + numbered b)
    (behind_each scope w b) k
place_in (show p rs rest) n scope k = if k == n then place scope p false else place_in rest (n + 1) scope k
place_in (exit p rest) n scope k = if k == n then place scope p true else place_in rest (n + 1) scope k

-- the statement of number k of these sessions
abbrev pub place_of : List Session → ℕ → ℕ → Place
place_of [] n k = nowhere
place_of (s ∷ ss) n k = if nat_lt k (n + numbered s.body) then place_in s.body n no_locals k else place_of ss (n + numbered s.body) k

-- the place of a point; an `if` and its join have one
abbrev pub spot_place : Service → Spot → Place
spot_place service (statement k) = place_of service.sessions 1 k
spot_place service (meeting k) = place_of service.sessions 1 k
spot_place service out = nowhere

-- what each point sees
abbrev pub tree_sees : Service → Spot → Scope
tree_sees service q = (spot_place service q).scope

-- names in order of declaration, of locals the newest of which comes first
abbrev pub in_order : List (List ℕ × Kind) → List (List ℕ)
in_order [] = []
in_order (l ∷ ls) = in_order ls ++ l.0 ∷ []

-- scopes alone, and then pages too
abbrev pub scope_facts : Service → Cells Spot → Facts Spot
scope_facts service c = record {
  scope = λ q. in_order (tree_sees service q).locals;
  local = c.local;
  shared = c.shared;
  shown = λ q. summary_of (known service c.shared nothing);
  is_exit = λ q. (spot_place service q).exits;
  place = λ k. statement k;
}

-- scopes, exits and pages
abbrev pub tree_facts : Service → Cells Spot → Facts Spot
tree_facts service c =
    record (scope_facts service c) { shown = λ q. summary_of (known service (look service (scope_facts service c) q) (spot_place service q).term) }

-- A typed service that was read, with its least cells from empty cells of the right kinds, and no gap fault.
pub record IsAnswered (service : Service) (empty c : Cells Spot) : Type 0 where
  pub readable : ∥ IsReadable service ∥₁
  pub typed : IsWellTyped service
  pub empties : AreKinded service (tree_sees service) (tree_facts service empty)
  pub least : IsLeast same_spot service (tree_facts service c) (service_edges service.sessions 1) empty c
  pub gaps : (session : ℕ) → HasNoGapFault service (tree_facts service c) session

-- such a service is accepted
abbrev pub AnsweredIsAccepted : Type 0
AnsweredIsAccepted = (service : Service) (empty c : Cells Spot) → IsAnswered service empty c → AcceptsAll service (tree_facts service c)

-- its empty world is covered, and so is every world that requests reach from a covered one, and what comes next
abbrev pub AnsweredWorldsAreCovered : Type 0
AnsweredWorldsAreCovered =
    (service : Service) (empty c : Cells Spot) → IsAnswered service empty c →
    CoversEmpty service (tree_facts service c) × CoversReached service (tree_facts service c)
