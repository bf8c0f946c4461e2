-- The laws of summaries: they are a lattice, part by part.
use Rattle.std.specs.Prelude.{ℕ, List}
use Rattle.std.proofs.Common.{refl}
use Rattle.std.specs.Cmp.{IsTotalOrder}
use Rattle.std.proofs.lemmas.Cmp.{nat_cmp_total, then_total, on_total}
use Rattle.bw_solve.specs.Lattice.{IsLattice}
use Rattle.bw_solve.specs.Lawful.SetLaws.{set_lattice}
use Rattle.bw_solve.specs.Lawful.Products.{pair_lattice, on_lattice}
use Rattle.bw_strings.specs.declared.strings.StrSet.{StrSet}
use Rattle.bw_sum.specs.Lawful.LabelLaws.{pair_cmp_total, labels_lattice}
use Rattle.bw_sum.specs.Edges.{edge_cmp}
use Rattle.bw_sum.specs.Summaries.{AreAlike, is_below, both, size_of, rank_of}
use Rattle.bw_sum.specs.declared.summary.Summary.{Summary}

pub edge_cmp_total : IsTotalOrder edge_cmp
edge_cmp_total = then_total (then_total (on_total (λ t. t.0) nat_cmp_total) (on_total (λ t. t.1) nat_cmp_total)) (on_total (λ t. t.2) nat_cmp_total)

abbrev parts : Summary → List ℕ × (List (ℕ × ℕ × ℕ) × (List ((ℕ × ℕ) × StrSet) × (List (ℕ × ℕ) × List ℕ)))
parts s = (s.roots, (s.edges, (s.texts, (s.tracks, s.lacks))))

pub summary_lattice : IsLattice {V = Summary} AreAlike is_below both size_of rank_of
summary_lattice = on_lattice parts both (λ a b. refl)
    (pair_lattice (set_lattice nat_cmp_total) (pair_lattice (set_lattice edge_cmp_total)
    (pair_lattice labels_lattice (pair_lattice (set_lattice pair_cmp_total) (set_lattice nat_cmp_total)))))
