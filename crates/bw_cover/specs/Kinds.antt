-- In a typed service whose cells have the kinds of their variables, plugs fill what they may fill, and pages are documents.
use Rattle.std.specs.Prelude.{◌≡◌, ◌≢◌, ◌<◌, ℕ, ◌+◌, true, false, List, [], length, is_some, Some}
use Rattle.std.specs.List.{All, AllByRecursion, AllPairs}
use Rattle.bw_lang.specs.declared.service.Service.{Service}
use Rattle.bw_lang.specs.declared.service.Shared.{Shared}
use Rattle.bw_lang.specs.declared.stmt.Kind.{Kind}
use Rattle.bw_lang.specs.Service.Code.{Code, done, declare, assign, if_then, if_else, while_loop, block, for_each, show, exit, numbered}
use Rattle.bw_lang.specs.Service.CodeNames.{local_names}
use Rattle.bw_lang.specs.Table.Names.{name_number, beside}
use Rattle.bw_lang.specs.Service.Order.{IsWoven}
use Rattle.bw_lang.specs.Service.Term.{Term}
use Rattle.bw_meaning.specs.GoOn.{body_of}
use Rattle.bw_lang.specs.Service.Numbers.{first_number}
use Rattle.bw_types.specs.declared.fault.GapKind.{GapKind}
use Rattle.bw_types.specs.Gaps.{kind_of_gap}
use Rattle.bw_types.specs.Scopes.{Scope, no_locals, shared_kinds, with_local, scope_behind, is_among, behind_each}
use Rattle.bw_types.specs.Typing.{HasKind, IsTypedService}
use Rattle.bw_sum.specs.Graph.{Graph}
use Rattle.bw_cover.specs.Abstracts.{Abstract, Nothing, Strings, Html, known, EachPair, IsPlug}
use Rattle.bw_cover.specs.Facts.{Facts, look}
use Rattle.bw_cover.specs.Least.{Cells, with_cells, same_spot, IsLeast, service_edges}
use Rattle.bw_cover.specs.Spots.{Spot, statement, Scoped, HasNoGapFault}
use Rattle.bw_cover.specs.Sound.{AcceptsAll}
use Rattle.bw_cover.specs.Facts.{literal_known}
use Rattle.bw_lang.specs.declared.stmt.Kind.TheVariants as kinds

-- what is known is known of a value of this kind
abbrev pub IsOf : Kind → Abstract → Type 0
IsOf kinds.Int Nothing = Unit {0}
IsOf kinds.Int (Strings S) = ⊥
IsOf kinds.Int (Html G) = ⊥
IsOf kinds.Bool Nothing = Unit {0}
IsOf kinds.Bool (Strings S) = ⊥
IsOf kinds.Bool (Html G) = ⊥
IsOf kinds.Str Nothing = ⊥
IsOf kinds.Str (Strings S) = Unit {0}
IsOf kinds.Str (Html G) = ⊥
IsOf kinds.Html Nothing = ⊥
IsOf kinds.Html (Strings S) = ⊥
IsOf kinds.Html (Html G) = Unit {0}
IsOf kinds.Strs Nothing = Unit {0}
IsOf kinds.Strs (Strings S) = ⊥
IsOf kinds.Strs (Html G) = ⊥

-- at a point the locals in scope are known by their kinds
abbrev pub LocalsAreOf : {K : Type 0} → Facts K → K → Scope → Type 0
LocalsAreOf f p scope = (w : List ℕ) (kind : Kind) → beside w scope.locals ≡ Some kind → IsOf kind (f.local p w)

-- and so at all statements
abbrev pub CellsAreOf : Facts Spot → Code → ℕ → Scope → Type 0
CellsAreOf f done n scope = Unit {0}
CellsAreOf f (declare kind w e rest) n scope = LocalsAreOf f (statement n) scope × CellsAreOf f rest (n + 1) (with_local scope w kind)
CellsAreOf f (assign w e rest) n scope = LocalsAreOf f (statement n) scope × CellsAreOf f rest (n + 1) scope
CellsAreOf f (if_then t y rest) n scope = LocalsAreOf f (statement n) scope × CellsAreOf f y (n + 1) scope
    × CellsAreOf f rest (n + 1 + numbered y) (scope_behind scope y)
CellsAreOf f (if_else t y z rest) n scope =
    LocalsAreOf f (statement n) scope × CellsAreOf f y (n + 1) scope × CellsAreOf f z (n + 1 + numbered y) (scope_behind scope y)
    × CellsAreOf f rest (n + 1 + numbered y + numbered z) (scope_behind (scope_behind scope y) z)
CellsAreOf f (while_loop t b rest) n scope = LocalsAreOf f (statement n) scope × CellsAreOf f b (n + 1) scope
    × CellsAreOf f rest (n + 1 + numbered b) (scope_behind scope b)
CellsAreOf f (block b rest) n scope = CellsAreOf f b n scope × CellsAreOf f rest (n + numbered b) (scope_behind scope b)
CellsAreOf f (for_each w e b rest) n scope =
    LocalsAreOf f (statement n) scope × CellsAreOf f b (n + 1) (with_local scope w kinds.Str)
    × CellsAreOf f rest (n + 1 + numbered b) (behind_each scope w b)
CellsAreOf f (show p rs rest) n scope = LocalsAreOf f (statement n) scope × CellsAreOf f rest (n + 1) scope
CellsAreOf f (exit p rest) n scope = LocalsAreOf f (statement n) scope × CellsAreOf f rest (n + 1) scope

-- and so are the shared variables
abbrev pub SharedAreOf : {K : Type 0} → Service → Facts K → Type 0
SharedAreOf service f = (w : List ℕ) (kind : Kind) → beside w (shared_kinds service) ≡ Some kind → IsOf kind (f.shared w)

-- of no document
abbrev pub no_graph : Graph
no_graph = record { root = λ n. false; edge = λ n g m. false; label = λ n g s. false; track = λ g n. false; lack = λ g. false }

-- the summary of a document, or an empty one
abbrev pub summary_of : Abstract → Graph
summary_of Nothing = no_graph
summary_of (Strings S) = no_graph
summary_of (Html G) = G

-- what is given for each show and exit is the summary of its document, and statements stand at their points
abbrev pub Shows : Service → Facts Spot → Code → ℕ → Type 0
Shows service f done n = Unit {0}
Shows service f (declare kind w e rest) n = Shows service f rest (n + 1)
Shows service f (assign w e rest) n = Shows service f rest (n + 1)
Shows service f (if_then t y rest) n = Shows service f y (n + 1) × Shows service f rest (n + 1 + numbered y)
Shows service f (if_else t y z rest) n = Shows service f y (n + 1) × Shows service f z (n + 1 + numbered y)
    × Shows service f rest (n + 1 + numbered y + numbered z)
Shows service f (while_loop t b rest) n = Shows service f b (n + 1) × Shows service f rest (n + 1 + numbered b)
Shows service f (block b rest) n = Shows service f b n × Shows service f rest (n + numbered b)
Shows service f (for_each w e b rest) n = Shows service f b (n + 1) × Shows service f rest (n + 1 + numbered b)
Shows service f (show e rs rest) n =
    (f.shown (statement n) ≡ summary_of (known service (look service f (statement n)) e)) × (f.place n ≡ statement n) × Shows service f rest (n + 1)
Shows service f (exit e rest) n =
    (f.shown (statement n) ≡ summary_of (known service (look service f (statement n)) e)) × (f.is_exit (statement n) ≡ true) × Shows service f rest (n + 1)

-- each name that has the kind of a gap has a number of the table of gap names
abbrev pub GapsAreThere : Service → Type 0
GapsAreThere service = (w : List ℕ) (kind : GapKind) → kind_of_gap service w ≡ Some kind → name_number service.gaps w < length service.gaps

-- What the check of a service knows of its least cells: the service is typed, with the law that locals differ, and was
-- read; the facts have the scopes of the tree, cells of the right kinds, and no gap fault.
pub record IsChecked (service : Service) (f : Facts Spot) (empty c : Cells Spot) : Type 0 where
  pub typed : IsTypedService service
  pub differ : All (λ s. AllPairs (λ v w. v ≢ w) (local_names s.body)) service.sessions
  pub there : GapsAreThere service
  pub scoped : (session : ℕ) → Scoped f (body_of service session) (first_number service session) []
  pub shows : (session : ℕ) → Shows service (with_cells f c) (body_of service session) (first_number service session)
  pub cells : (session : ℕ) → CellsAreOf (with_cells f c) (body_of service session) (first_number service session) no_locals
  pub shared : SharedAreOf service (with_cells f c)
  pub least : IsLeast same_spot service f (service_edges service.sessions 1) empty c
  pub gaps : (session : ℕ) → HasNoGapFault service (with_cells f c) session

-- so the laws hold of the least cells
abbrev pub CheckedIsAccepted : Type 0
CheckedIsAccepted = (service : Service) (f : Facts Spot) (empty c : Cells Spot) → IsChecked service f empty c → AcceptsAll service (with_cells f c)

-- the names of locals are those of the scope
abbrev pub Agree : Scope → List (List ℕ) → Type 0
Agree scope names = (w : List ℕ) → is_some (beside w scope.locals) ≡ is_among w names

-- At a place of a flow that sees this scope: of a typed expression what is known has its kind, and its plugs fill what
-- they may fill.
abbrev pub PlacesFit : Type 0
PlacesFit =
    (service : Service) (f : Facts ℕ) (p : ℕ) (scope : Scope) (e : Term) (kind : Kind) → IsTypedService service → GapsAreThere service →
    SharedAreOf service f → Agree scope (f.scope p) → LocalsAreOf f p scope → HasKind service scope e kind →
    IsOf kind (known service (look service f p) e) × EachPair (IsPlug service) service (look service f p) e

-- each literal has the kind of its variable
abbrev pub LiteralsAreOf : Service → Type 0
LiteralsAreOf service =
    AllByRecursion (λ (v : Shared). (kind : Kind) → beside v.name (shared_kinds service) ≡ Some kind
    → IsOf kind (literal_known service v.init)) service.shared

-- so it is in a typed service
abbrev pub TypedLiterals : Type 0
TypedLiterals = (service : Service) → IsWoven service → IsTypedService service → LiteralsAreOf service
