use Rattle.std.proofs.Common.{refl, arith}
use Rattle.bw_explain.proofs.Given.{parts}
use Rattle.bw_explain.proofs.solve.solve_steps.Goals as goal

pub seek-requires-clause-given : goal.seek-requires-clause-given
seek-requires-clause-given c = λ h.
    let s = c.args.search.now in
    record {
      states = (omega arith, omega arith);
      zero = λ o. refl;
      plain = c.requires.search.plain;
      known = parts s.page s.aim c.args.stay.now c.args.none.now c.args.none.now 0 1 (omega arith) c.requires.stay (λ i j. absurd (omega (arith, i)))
          (λ i j. absurd (omega (arith, i)));
      fair = c.requires.search.fair;
    }

pub seek-requires-2-clause-given : goal.seek-requires-2-clause-given
seek-requires-2-clause-given c = λ h.
    let s = c.args.search.now in
    record {
      states = (omega arith, omega arith);
      zero = λ o. absurd (let d = c.requires.search.deep o in omega (arith, d, h));
      plain = c.requires.search.plain;
      known = parts s.page s.aim c.args.stay.now c.args.none.now c.args.none.now 1 2 (omega arith) c.requires.stay (λ i j. absurd (omega (arith, j)))
          (λ i j. absurd (omega (arith, j)));
      fair = c.requires.search.fair;
    }

pub seek-requires-3-clause-given : goal.seek-requires-3-clause-given
seek-requires-3-clause-given c = λ h.
    let s = c.args.search.now in
    record {
      states = (omega arith, omega arith);
      zero = λ o. refl;
      plain = c.requires.search.plain;
      known = parts s.page s.aim c.args.stay.now c.in_ok-first.first c.in-Ok.second 0 2 (omega arith) c.requires.stay
          (λ i j. c.in_ok-first.ensures (omega (arith, h))) (λ i j. c.in-Ok.ensures h);
      fair = c.requires.search.fair;
    }
