use Rattle.std.proofs.Common.{ℕ, ◌<◌, sym, subst, arith}
use Rattle.std.proofs.lemmas.List.{get_or_read}
use Rattle.analysis_cases.proofs.sets.rounds.are_below.Goals as goal

pub below-requires : goal.below-requires
below-requires g c =
    let i : ℕ = c.loop-cell.cell in
    let system = c.args.system.now in
    let empty = g.S.System.empty system in
    let h : i < g.S.System.cells system = let a = c.loop-cell-test.true in let b = c.cells-cell-end.ensures in omega arith in
    (g.met.S.System.laws system).fits_alike i c.index-a-cell.result c.index-b-cell.result h
    (subst (g.S.System.fits system i) (sym (get_or_read c.args.a.now i c.index-a-cell.result (omega (arith, c.requires.a, h)) c.index-a-cell.is (empty i)))
    (c.requires.a_fits i h))
    (subst (g.S.System.fits system i) (sym (get_or_read c.args.b.now i c.index-b-cell.result (omega (arith, c.requires.b, h)) c.index-b-cell.is (empty i)))
    (c.requires.b_fits i h))
