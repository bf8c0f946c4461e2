-- Plugs into a value whose edges stand apart.
use Rattle.std.proofs.Common.{◌≡◌, ℕ, ◌||◌, List, [], refl, sym, ap, ◌∙◌}
use Rattle.std.proofs.Math.Bool.{or_assoc}
use Rattle.std.specs.Ordering.{nat_cmp}
use Rattle.std.proofs.lemmas.Map.Lookups.{CmpEqualImpliesEq, exact_unsigned, exact_pairs}
use Rattle.bw_faults.proofs.Lists.{set_equal, merge_nothing}
use Rattle.bw_solve.specs.Sets.{IsSet, has, merge}
use Rattle.bw_solve.specs.Lawful.SetLaws.{merge_has, merge_set}
use Rattle.bw_sum.specs.Edges.{edge_cmp, edges_at}
use Rattle.bw_sum.specs.Labels.{pair_cmp}
use Rattle.bw_sum.specs.Summaries.{plugged, plugged_text}
use Rattle.bw_sum.specs.Lawful.SummaryLaws.{edge_cmp_total}
use Rattle.bw_analyse.specs.declared.abstracts.Abstract.{Abstract}
use Rattle.bw_analyse.specs.declared.abstracts.Abstract.TheVariants.{Nothing, Str, Html}
use Rattle.bw_analyse.specs.Abstracts.{plugged_by}
use Rattle.bw_analyse.specs.Apart.{edges_of, with_edges, AreApart}

-- pairs and edges that compare as equal are equal
pub pair_exact : CmpEqualImpliesEq pair_cmp
pair_exact = exact_pairs nat_cmp nat_cmp exact_unsigned exact_unsigned

pub edge_exact : CmpEqualImpliesEq edge_cmp
edge_exact x y e =
    let k : ((x.0, x.1), x.2) ≡ ((y.0, y.1), y.2) = exact_pairs pair_cmp nat_cmp pair_exact exact_unsigned ((x.0, x.1), x.2) ((y.0, y.1), y.2) e in
    λ i. ((k i).0.0, (k i).0.1, (k i).1)

abbrev Edges : Type 0
Edges = List (ℕ × ℕ × ℕ)

-- which of three sets of edges are put together first makes no difference
pub merge_assoc : (a b c : Edges) → IsSet edge_cmp a → IsSet edge_cmp b → IsSet edge_cmp c
    → merge edge_cmp (merge edge_cmp a b) c ≡ merge edge_cmp a (merge edge_cmp b c)
merge_assoc a b c p q r =
    set_equal edge_cmp_total edge_exact (merge edge_cmp (merge edge_cmp a b) c) (merge edge_cmp a (merge edge_cmp b c))
    (merge_set edge_cmp_total (merge edge_cmp a b) c (merge_set edge_cmp_total a b p q) r)
    (merge_set edge_cmp_total a (merge edge_cmp b c) p (merge_set edge_cmp_total b c q r))
    (λ z.
    merge_has edge_cmp_total (merge edge_cmp a b) c z ∙ ap (λ x. x || has edge_cmp c z) (merge_has edge_cmp_total a b z)
    ∙ or_assoc (has edge_cmp a z) (has edge_cmp b z) (has edge_cmp c z)
    ∙ ap (λ x. has edge_cmp a z || x) (sym (merge_has edge_cmp_total b c z)) ∙ sym (merge_has edge_cmp_total a (merge edge_cmp b c) z))

-- no edges more
pub nothing_more : (a : Edges) → merge edge_cmp a [] ≡ a
nothing_more a = merge_nothing edge_cmp_total a

-- a value is itself without its edges, and these
pub apart : (a : Abstract) → with_edges (with_edges a []) (merge edge_cmp (edges_of a) []) ≡ a
apart Nothing = refl
apart (Str s) = refl
apart (Html s) = ap (λ e. Html (record { roots = s.roots; edges = e; texts = s.texts; tracks = s.tracks; lacks = s.lacks })) (nothing_more s.edges)

-- without its edges it has none
pub bare_apart : (a : Abstract) → edges_of (with_edges a []) ≡ []
bare_apart Nothing = refl
bare_apart (Str s) = refl
bare_apart (Html s) = refl

-- a plug into a value with two sets of edges: its edges and the second set are put together first
pub plugged_apart : (bare : Abstract) (g : ℕ) (a : Abstract) (edges waiting new : Edges) → AreApart bare edges waiting → IsSet edge_cmp new
    → new ≡ edges_of (plugged_by bare g a)
    → with_edges (with_edges (plugged_by bare g a) []) (merge edge_cmp edges (merge edge_cmp waiting new))
    ≡ plugged_by (with_edges bare (merge edge_cmp edges waiting)) g a
plugged_apart Nothing g a edges waiting new p q e = refl
plugged_apart (Str s) g a edges waiting new p q e = refl
plugged_apart (Html b) g Nothing edges waiting new p q e = refl
plugged_apart (Html b) g (Str s) edges waiting new p q e =
    ap (λ x. with_edges (Html (plugged_text b g s)) (merge edge_cmp edges x)) (ap (merge edge_cmp waiting) (e ∙ p.0) ∙ nothing_more waiting)
plugged_apart (Html b) g (Html a) edges waiting new p q e =
    let more : Edges = merge edge_cmp a.edges (edges_at [] b.tracks g a.roots) in
    ap (with_edges (Html (plugged b g a)))
    (sym (merge_assoc edges waiting new p.1.0 p.1.1 q)
    ∙ ap (merge edge_cmp (merge edge_cmp edges waiting)) (e ∙ ap (λ x. merge edge_cmp x more) p.0))
