use Rattle.std.proofs.Common.{◌≡◌, ℕ, ◌+◌, ◌-◌, ◌*◌, ◌<◌, ◌≤◌, true, false, slice_index_or, vec_len}
use Rattle.bw_solve.specs.System.{family, members, added}
use Rattle.bw_solve.proofs.Flags.{waits}
use Rattle.bw_solve.proofs.Least.{Partial}
use Rattle.bw_solve.proofs.solver.solve.Given as goal

abbrev pub invariant-loop-cell : goal.invariant-loop-cell
invariant-loop-cell g l = record {
  flags : vec_len l.waiting ≡ g.S.System.cells l.system;
  len : vec_len l.values ≡ g.S.System.cells l.system;
  partial : Partial g.S.Value.Lattice.below (g.S.System.cells l.system) (g.S.System.fits l.system) (g.S.System.empty l.system)
      (g.S.System.transfer l.system) (family (g.S.System.empty l.system) l.values.items);
  closed : (d : ℕ) → d < g.S.System.cells l.system → slice_index_or l.waiting.items d false ≡ false
      → g.S.Value.Lattice.below (g.S.System.transfer l.system d (family (g.S.System.empty l.system) l.values.items))
      (family (g.S.System.empty l.system) l.values.items d) ≡ true;
  total : l.total ≡ members g.S.Value.Lattice.size (family (g.S.System.empty l.system) l.values.items) (g.S.System.cells l.system);
  small : l.total ≤ l.limit;
}

abbrev pub decreases-loop-cell : goal.decreases-loop-cell
decreases-loop-cell g l =
    added (λ d. g.S.System.bound l.system d - g.S.Value.Lattice.rank (family (g.S.System.empty l.system) l.values.items d)) (g.S.System.cells l.system)
    * (g.S.System.cells l.system + 1)
    + waits l.waiting.items
