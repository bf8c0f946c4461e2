-- The least cells of a typed service have the kinds of their variables, where the empty cells have them.
use Rattle.std.specs.Prelude.{◌≡◌, ℕ, ◌+◌, true, false, List, [], Some, None}
use Rattle.std.specs.List.{AllByRecursion}
use Rattle.bw_lang.specs.declared.service.Service.{Service}
use Rattle.bw_lang.specs.declared.stmt.Kind.{Kind}
use Rattle.bw_lang.specs.Service.Code.{Code, done, declare, assign, if_then, if_else, while_loop, block, for_each, show, exit, numbered}
use Rattle.bw_lang.specs.Table.Names.{same, beside}
use Rattle.bw_lang.specs.Service.Reads.{IsReadable}
use Rattle.bw_meaning.specs.GoOn.{body_of}
use Rattle.bw_lang.specs.Service.Numbers.{first_number}
use Rattle.bw_types.specs.Scopes.{Scope, no_locals, shared_kinds, with_local, scope_behind, behind_each}
use Rattle.bw_types.specs.Faults.{IsWellTyped}
use Rattle.bw_types.specs.Typing.{HasKind, IsReceived}
use Rattle.bw_cover.specs.Facts.{What, keeps, sets, brings, takes, Facts, Edge}
use Rattle.bw_cover.specs.Kinds.{LocalsAreOf, SharedAreOf, Agree, Shows}
use Rattle.bw_cover.specs.Least.{Cells, with_cells, same_spot, IsLeast, service_edges}
use Rattle.bw_cover.specs.Spots.{Spot, statement, meeting, out, Scoped, HasNoGapFault}
use Rattle.bw_cover.specs.Worlds.{CoversEmpty, CoversReached}
use Rattle.bw_cover.specs.Sound.{AcceptsAll}
use Rattle.bw_lang.specs.declared.stmt.Kind.TheVariants as kinds

-- what each point sees is the scope of its place
abbrev pub Sees : (Spot → Scope) → Code → ℕ → Scope → Type 0
Sees sees done n scope = Unit {0}
Sees sees (declare kind w e rest) n scope = (sees (statement n) ≡ scope) × Sees sees rest (n + 1) (with_local scope w kind)
Sees sees (assign w e rest) n scope = (sees (statement n) ≡ scope) × Sees sees rest (n + 1) scope
Sees sees (if_then t y rest) n scope = (sees (statement n) ≡ scope) × (sees (meeting n) ≡ scope) × Sees sees y (n + 1) scope
    × Sees sees rest (n + 1 + numbered y) (scope_behind scope y)
Sees sees (if_else t y z rest) n scope =
    (sees (statement n) ≡ scope) × (sees (meeting n) ≡ scope) × Sees sees y (n + 1) scope × Sees sees z (n + 1 + numbered y) (scope_behind scope y)
    × Sees sees rest (n + 1 + numbered y + numbered z) (scope_behind (scope_behind scope y) z)
Sees sees (while_loop t b rest) n scope = (sees (statement n) ≡ scope) × Sees sees b (n + 1) scope × Sees sees rest (n + 1 + numbered b) (scope_behind scope b)
Sees sees (block b rest) n scope = Sees sees b n scope × Sees sees rest (n + numbered b) (scope_behind scope b)
Sees sees (for_each w e b rest) n scope =
    (sees (statement n) ≡ scope) × Sees sees b (n + 1) (with_local scope w kinds.Str)
    × Sees sees rest (n + 1 + numbered b) (behind_each scope w b)
Sees sees (show p rs rest) n scope = (sees (statement n) ≡ scope) × Sees sees rest (n + 1) scope
Sees sees (exit p rest) n scope = (sees (statement n) ≡ scope) × Sees sees rest (n + 1) scope

-- all cells have the kinds of their variables
pub record AreKinded {K : Type 0} (service : Service) (sees : K → Scope) (f : Facts K) : Type 0 where
  pub locals : (q : K) → LocalsAreOf f q (sees q)
  pub shared : SharedAreOf service f

-- each local that the second scope has has the same kind in the first one
abbrev pub Within : Scope → Scope → Type 0
Within p q = (w : List ℕ) (kind : Kind) → beside w q.locals ≡ Some kind → beside w p.locals ≡ Some kind

-- and so has each one but v, which has this kind
abbrev pub WithinBut : List ℕ → Kind → Scope → Scope → Type 0
WithinBut v own p q = (w : List ℕ) (kind : Kind) → beside w q.locals ≡ Some kind → (same w v ≡ true → kind ≡ own)
    × (same w v ≡ false → beside w p.locals ≡ Some kind)

-- a typed point that does this, sees the scope p, and leads to a point that sees the scope q
abbrev pub TypedStep : Service → Scope → What → Scope → Type 0
TypedStep service p keeps q = Within p q
TypedStep service p (sets v e) q =
    (own : Kind) × HasKind service p e own × WithinBut v own p q
    × ((kind : Kind) → beside v p.locals ≡ None → beside v (shared_kinds service) ≡ Some kind → kind ≡ own)
TypedStep service p (brings v) q = WithinBut v kinds.Str p q
TypedStep service p (takes rs) q = Within p q × AllByRecursion (IsReceived service p) rs

-- each edge is so, where `sees` tells what each point sees
abbrev pub EachTyped : {K : Type 0} → Service → (K → Scope) → List (Edge K) → Type 0
EachTyped {K} service sees es = AllByRecursion (λ (e : Edge K). TypedStep service (sees e.from) e.what (sees e.to)) es

-- A typed service that was read, its least cells from empty cells of the right kinds, and no gap fault.
pub record IsSolved (service : Service) (f : Facts Spot) (sees : Spot → Scope) (empty c : Cells Spot) : Type 0 where
  pub readable : ∥ IsReadable service ∥₁
  pub typed : IsWellTyped service
  pub scoped : (session : ℕ) → Scoped f (body_of service session) (first_number service session) []
  pub sees_code : (session : ℕ) → Sees sees (body_of service session) (first_number service session) no_locals
  pub sees_nothing : (sees out).locals ≡ []
  pub agree : (q : Spot) → Agree (sees q) (f.scope q)
  pub shows : (session : ℕ) → Shows service (with_cells f c) (body_of service session) (first_number service session)
  pub empties : AreKinded service sees (with_cells f empty)
  pub least : IsLeast same_spot service f (service_edges service.sessions 1) empty c
  pub gaps : (session : ℕ) → HasNoGapFault service (with_cells f c) session

-- such a service is accepted
abbrev pub SolvedIsAccepted : Type 0
SolvedIsAccepted = (service : Service) (f : Facts Spot) (sees : Spot → Scope) (empty c : Cells Spot) → IsSolved service f sees empty c
    → AcceptsAll service (with_cells f c)

-- so the least cells cover its empty world, and every world that requests reach from a covered one, and what comes next
abbrev pub SolvedWorldsAreCovered : Type 0
SolvedWorldsAreCovered =
    (service : Service) (f : Facts Spot) (sees : Spot → Scope) (empty c : Cells Spot) → IsSolved service f sees empty c →
    CoversEmpty service (with_cells f c) × CoversReached service (with_cells f c)
