use Rattle.std.proofs.Common.{◌≡◌, ℕ, true, subst, ap, ◌∙◌}
use Rattle.bw_solve.specs.System.{family}
use Rattle.bw_solve.proofs.Least.{least_all}
use Rattle.analysis_cases.proofs.Rising.{partial_round}
use Rattle.analysis_cases.proofs.sets.rounds.least_by_rounds.Goals as goal

pub returns-then-are_below : goal.returns-then-are_below
returns-then-are_below g c =
    let system = c.args.system.now in
    let empty = g.S.System.empty system in
    let transfer = g.S.System.transfer system in
    let below = g.S.Value.Lattice.below in
    let f : ℕ → g.row.S-Value.Denot = family empty c.rounds.values.items in
    least_all g.met.S.Value.Lattice.laws (g.met.S.System.laws system) f c.rounds.invariant.partial (λ d h.
    subst (λ v. below v (f d) ≡ true) (◌∙◌ {b = transfer d (family empty c.deref.result.now)} (c.in_ok-next.ensures.each d h)
    (ap (λ xs. transfer d (family empty xs)) c.deref.ensures.value))
    (subst (λ ys. below (family empty c.in_ok-next.next.items d) (family empty ys d) ≡ true) c.deref-in-rounds-2.ensures.value
    (subst (λ xs. below (family empty xs d) (family empty c.deref-in-rounds-2.result.now d) ≡ true) c.deref-in-rounds.ensures.value
    (c.are_below.ensures c.if-are_below.true d h))))

pub rounds-preserved : goal.rounds-preserved
rounds-preserved g c =
    let system = c.args.system.now in
    let empty = g.S.System.empty system in
    let transfer = g.S.System.transfer system in
    let f : ℕ → g.row.S-Value.Denot = family empty c.rounds.values.items in
    let next : ℕ → g.row.S-Value.Denot = family empty c.in_ok-next.next.items in
    record {
      len = c.in_ok-next.ensures.len;
      partial = partial_round g.met.S.Value.Lattice.laws (g.met.S.System.laws system) f next c.rounds.invariant.partial
          (λ d h. ◌∙◌ {b = transfer d (family empty c.deref.result.now)} (c.in_ok-next.ensures.each d h)
          (ap (λ xs. transfer d (family empty xs)) c.deref.ensures.value));
    }
