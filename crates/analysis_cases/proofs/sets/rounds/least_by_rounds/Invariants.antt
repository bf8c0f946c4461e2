use Rattle.std.proofs.Common.{◌≡◌, vec_len}
use Rattle.bw_solve.specs.System.{family}
use Rattle.bw_solve.proofs.Least.{Partial}
use Rattle.analysis_cases.proofs.sets.rounds.least_by_rounds.Given as goal

abbrev pub invariant-rounds : goal.invariant-rounds
invariant-rounds g l = record {
  len : vec_len l.values ≡ g.S.System.cells l.system;
  partial : Partial g.S.Value.Lattice.below (g.S.System.cells l.system) (g.S.System.fits l.system) (g.S.System.empty l.system)
      (g.S.System.transfer l.system) (family (g.S.System.empty l.system) l.values.items);
}
