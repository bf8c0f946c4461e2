-- The edges that a plug makes.
use Rattle.std.specs.Prelude.{ℕ, if◌then◌else◌, ◌==◌, List, [], ◌∷◌}
use Rattle.std.specs.declared.cmp.Ordering.{Ordering}
use Rattle.std.specs.Ordering.{nat_cmp, ordering_then}
use Rattle.bw_solve.specs.Sets.{merge}

abbrev pub edge_cmp : ℕ × ℕ × ℕ → ℕ × ℕ × ℕ → Ordering
edge_cmp p q = ordering_then (ordering_then (nat_cmp p.0 q.0) (nat_cmp p.1 q.1)) (nat_cmp p.2 q.2)

-- edges, and one from n at g to each root
abbrev pub edges_from : List (ℕ × ℕ × ℕ) → ℕ → ℕ → List ℕ → List (ℕ × ℕ × ℕ)
edges_from edges n g [] = edges
edges_from edges n g (m ∷ ms) = edges_from (merge edge_cmp edges ((n, g, m) ∷ [])) n g ms

-- edges, and one from each template where g is tracked to each root
abbrev pub edges_at : List (ℕ × ℕ × ℕ) → List (ℕ × ℕ) → ℕ → List ℕ → List (ℕ × ℕ × ℕ)
edges_at edges [] g roots = edges
edges_at edges (t ∷ ts) g roots = edges_at (if t.0 == g then edges_from edges t.1 g roots else edges) ts g roots
