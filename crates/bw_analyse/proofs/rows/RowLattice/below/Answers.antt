use Rattle.std.proofs.Common.{get_or, sym, subst, arith}
use Rattle.bw_analyse.specs.Abstracts.{AreAlike}
use Rattle.bw_analyse.proofs.Walks.{alike_at}
use Rattle.bw_analyse.proofs.rows.RowLattice.below.Goals as goal

pub below-requires : goal.below-requires
below-requires c =
    let xs = c.as_slice-a.result.now in
    let ys = c.as_slice-b.result.now in
    let i = c.loop-i.i in
    let x = c.index-a-i.result in
    let y = c.index-b-i.result in
    let alike : AreAlike (get_or xs i x) (get_or ys i y) =
    alike_at xs ys i x y (rw (c.as_slice-a.ensures, c.as_slice-b.ensures) c.requires) (omega arith) (omega arith) in
    subst (λ z. AreAlike z y) (sym c.index-a-i.is) (subst (λ z. AreAlike (get_or xs i x) z) (sym c.index-b-i.is) alike)
