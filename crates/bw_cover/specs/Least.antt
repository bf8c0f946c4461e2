-- The least solution of a service's system, by rounds from empty cells.
use Rattle.std.specs.Prelude.{◌≡◌, ℕ, zero, suc, ◌+◌, Bool, true, false, ◌||◌, ◌&&◌, ◌==◌, not, if◌then◌else◌, List, [], ◌∷◌, ◌++◌, Option, Some, None}
use Rattle.std.specs.List.{list_any, AllByRecursion}
use Rattle.bw_lang.specs.declared.service.Service.{Service}
use Rattle.bw_lang.specs.declared.service.Session.{Session}
use Rattle.bw_lang.specs.declared.service.Shared.{Shared}
use Rattle.bw_lang.specs.declared.stmt.Receive.{Receive}
use Rattle.bw_lang.specs.Table.Names.{same}
use Rattle.bw_meaning.specs.GoOn.{body_of}
use Rattle.bw_lang.specs.Service.Numbers.{first_number}
use Rattle.bw_lang.specs.Service.Code.{numbered}
use Rattle.bw_sum.specs.Graph.{joined}
use Rattle.bw_cover.specs.Abstracts.{Abstract, Nothing, Strings, Html, Below, known}
use Rattle.bw_cover.specs.Facts.{What, keeps, sets, brings, takes, Facts, is_shared, look, received_by, left, Edge, EachLeads}
use Rattle.bw_types.specs.Scopes.{is_among}
use Rattle.bw_cover.specs.Spots.{Spot, statement, meeting, out, edges}
use Rattle.bw_cover.specs.Facts.{literal_known}

-- what is known of each local at each point, and of each shared variable
pub record Cells (K : Type 0) : Type 0 where
  pub local : K → List ℕ → Abstract
  pub shared : List ℕ → Abstract

-- the same facts with these cells
abbrev pub with_cells : {K : Type 0} → Facts K → Cells K → Facts K
with_cells f c = record f { local = c.local; shared = c.shared }

-- part by part; of two that aren't of one kind nothing is known
abbrev pub join : Abstract → Abstract → Abstract
join Nothing b = Nothing
join (Strings S) Nothing = Nothing
join (Strings S) (Strings T) = Strings (λ s. S s || T s)
join (Strings S) (Html H) = Nothing
join (Html G) Nothing = Nothing
join (Html G) (Strings T) = Nothing
join (Html G) (Html H) = Html (joined G H)

-- the join of what there is, if this point is meant
abbrev pub join_if : Bool → Option Abstract → Abstract → Abstract
join_if false o b = b
join_if true None b = b
join_if true (Some a) b = join a b

-- it is the same point
abbrev pub same_spot : Spot → Spot → Bool
same_spot (statement m) (statement n) = m == n
same_spot (statement m) (meeting n) = false
same_spot (statement m) out = false
same_spot (meeting m) (statement n) = false
same_spot (meeting m) (meeting n) = m == n
same_spot (meeting m) out = false
same_spot out (statement n) = false
same_spot out (meeting n) = false
same_spot out out = true

-- what a point adds to a shared variable, where it adds something
abbrev pub added : {K : Type 0} → Service → Facts K → K → What → List ℕ → Option Abstract
added service f p keeps w = None
added service f p (sets v e) w = if same w v && not (is_among v (f.scope p)) then Some (known service (look service f p) e) else None
added service f p (brings v) w = None
added service f p (takes rs) w = if list_any (λ (r : Receive). same w r.target && not (is_among r.target (f.scope p))) rs then Some
    (received_by (f.shared w)) else None

-- The join of what all points that lead to q leave in a local, upon its empty value. Here and below is_same tells points
-- apart.
abbrev pub joined_local : {K : Type 0} → (K → K → Bool) → Service → Facts K → List (Edge K) → K → List ℕ → Abstract → Abstract
joined_local is_same service f [] q w empty = empty
joined_local is_same service f (e ∷ es) q w empty = join_if (is_same e.to q) (left service f e.from e.what w) (joined_local is_same service f es q w empty)

-- the join of what all points add to a shared variable, and of its literal
abbrev pub joined_shared : {K : Type 0} → Service → Facts K → List (Edge K) → List ℕ → Abstract → Abstract
joined_shared service f [] w first = first
joined_shared service f (e ∷ es) w first = join_if true (added service f e.from e.what w) (joined_shared service f es w first)

-- the join of the literals of the shared variables of that name
abbrev pub joined_literals : Service → List Shared → List ℕ → Abstract → Abstract
joined_literals service [] w empty = empty
joined_literals service (v ∷ vs) w empty = join_if (same w v.name) (Some (literal_known service v.init)) (joined_literals service vs w empty)

-- all cells at once, from the cells before
abbrev pub round : {K : Type 0} → (K → K → Bool) → Service → Facts K → List (Edge K) → Cells K → Cells K → Cells K
round is_same service f es empty c = record {
  local = λ q w. joined_local is_same service (with_cells f c) es q w (empty.local q w);
  shared = λ w. joined_shared service (with_cells f c) es w (joined_literals service service.shared w (empty.shared w));
}

-- so many rounds from the empty cells
abbrev pub rounds : {K : Type 0} → (K → K → Bool) → Service → Facts K → List (Edge K) → Cells K → ℕ → Cells K
rounds is_same service f es empty zero = empty
rounds is_same service f es empty (suc n) = round is_same service f es empty (rounds is_same service f es empty n)

-- the cells that there are: those of the first are below those of the second
pub record AreBelow {K : Type 0} (service : Service) (f : Facts K) (c d : Cells K) : Type 0 where
  pub local : (q : K) (w : List ℕ) → is_among w (f.scope q) ≡ true → Below (c.local q w) (d.local q w)
  pub shared : (w : List ℕ) → is_shared service w ≡ true → Below (c.shared w) (d.shared w)

-- the union of all rounds: it is above each of them, and some round is above it
pub record IsLeast {K : Type 0} (is_same : K → K → Bool) (service : Service) (f : Facts K) (es : List (Edge K)) (empty c : Cells K) : Type 0 where
  pub above : (n : ℕ) → AreBelow service f (rounds is_same service f es empty n) c
  pub reached : (n : ℕ) × AreBelow service f c (rounds is_same service f es empty n)

-- the edges of all sessions, whose statements are numbered from n on
abbrev pub service_edges : List Session → ℕ → List (Edge Spot)
service_edges [] n = []
service_edges (s ∷ ss) n = edges s.body n out ++ service_edges ss (n + numbered s.body)

-- The least cells of a service obey each edge of each session, and each literal.
abbrev pub LeastObeys : Type 0
LeastObeys =
    (service : Service) (f : Facts Spot) (empty c : Cells Spot) → IsLeast same_spot service f (service_edges service.sessions 1) empty c →
    ((session : ℕ) → EachLeads service (with_cells f c) (edges (body_of service session) (first_number service session) out))
    × AllByRecursion (λ (v : Shared). Below (literal_known service v.init) (c.shared v.name)) service.shared
