-- A value whose edges stand apart.
use Rattle.std.specs.Prelude.{◌≡◌, ℕ, List, []}
use Rattle.bw_solve.specs.Sets.{IsSet}
use Rattle.bw_sum.specs.Edges.{edge_cmp}
use Rattle.bw_analyse.specs.declared.abstracts.Abstract.{Abstract}
use Rattle.bw_analyse.specs.declared.abstracts.Abstract.TheVariants.{Nothing, Str, Html}

-- the edges of a document; no other value has any
abbrev pub edges_of : Abstract → List (ℕ × ℕ × ℕ)
edges_of Nothing = []
edges_of (Str s) = []
edges_of (Html s) = s.edges

-- a document with these edges in place of its own
abbrev pub with_edges : Abstract → List (ℕ × ℕ × ℕ) → Abstract
with_edges Nothing edges = Nothing
with_edges (Str s) edges = Str s
with_edges (Html s) edges = Html (record { roots = s.roots; edges = edges; texts = s.texts; tracks = s.tracks; lacks = s.lacks })

-- a value without edges, and two sets of them
abbrev pub AreApart : Abstract → List (ℕ × ℕ × ℕ) → List (ℕ × ℕ × ℕ) → Type 0
AreApart bare edges waiting = (edges_of bare ≡ []) × (IsSet edge_cmp edges × IsSet edge_cmp waiting)
