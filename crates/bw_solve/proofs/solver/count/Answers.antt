use Rattle.std.proofs.Common.{ℕ, ◌+◌, ◌≤◌, ap, arith}
use Rattle.std.proofs.lemmas.List.{get_or_read}
use Rattle.std.proofs.lemmas.Result.{err_from_is_err_and}
use Rattle.bw_solve.specs.System.{family}
use Rattle.bw_solve.proofs.Sums.{added_next}
use Rattle.bw_solve.proofs.Faults.{passed_more}
use Rattle.bw_solve.proofs.solver.count.Goals as goal

pub returns-in_err-total-clause-passed : goal.returns-in_err-total-clause-passed
returns-in_err-total-clause-passed g c =
    let p = err_from_is_err_and c.from_residual.result c.from_residual.ensures.1 in
    let i = c.loop-value.value-index in
    let f : ℕ → ℕ = λ k. g.S.Value.Lattice.size (family (g.S.System.empty c.args.system.now) c.args.values.now k) in
    let read = get_or_read c.args.values.now i c.value-item.result c.loop-value-test.true c.value-item.is (g.S.System.empty c.args.system.now i) in
    let e = ap g.S.Value.Lattice.size read in
    let s : c.size.result ≤ f i = omega (arith, c.size.ensures) in
    rw (p.1, p.2) (passed_more c.args.limit (c.loop-value.total + c.size.result) _ _
    (omega (arith, added_next f i (g.S.System.cells c.args.system.now) (omega arith))) c.in_err-total.ensures.passed)
