-- The laws of labels.
use Rattle.std.specs.Prelude.{ℕ, List, []}
use Rattle.std.specs.Cmp.{IsTotalOrder}
use Rattle.std.proofs.lemmas.Cmp.{nat_cmp_total, then_total, on_total}
use Rattle.bw_solve.specs.Lattice.{IsLattice}
use Rattle.bw_solve.specs.Lawful.TableLaws.{table_lattice}
use Rattle.bw_strings.specs.declared.strings.StrSet.{StrSet}
use Rattle.bw_strings.specs.declared.strings.StrSet.TheVariants.{Of}
use Rattle.bw_strings.specs.Lawful.StringLaws.{strings_lattice, none_least, none_left, none_right}
use Rattle.bw_sum.specs.Labels.{pair_cmp, AreLabels, are_below, both_labels, labels_size, labels_rank}

pub pair_cmp_total : IsTotalOrder pair_cmp
pair_cmp_total = then_total (on_total (λ t. t.0) nat_cmp_total) (on_total (λ t. t.1) nat_cmp_total)

pub labels_lattice : IsLattice {V = List ((ℕ × ℕ) × StrSet)} (λ a b. AreLabels a × AreLabels b) are_below both_labels labels_size labels_rank
labels_lattice = table_lattice pair_cmp_total strings_lattice (Of []) (tt, tt) (λ v h. none_least v) none_left none_right
