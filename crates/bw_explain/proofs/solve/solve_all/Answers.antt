use Rattle.std.proofs.Common.{refl, arith}
use Rattle.bw_explain.proofs.solve.solve_all.Goals as goal

pub seek-requires-clause-given : goal.seek-requires-clause-given
seek-requires-clause-given c = λ h. record {
  states = (omega arith, omega arith);
  zero = λ o. refl;
  plain = c.requires.plain;
  known = λ x y a b d e. absurd (e (omega (arith, a, b, d)) (omega (arith, a, b, d)));
  fair = c.requires.fair;
}

pub solve_steps-requires-clause-stay : goal.solve_steps-requires-clause-stay
solve_steps-requires-clause-stay c = c.in_ok-stay.ensures (omega arith)

pub returns : goal.returns
returns c = record {
  stay = c.in_ok-stay.ensures (omega arith);
  first = λ h. c.in-Ok.ensures.first h;
  second = λ h. c.in-Ok.ensures.second h;
  whole = λ h. c.in-Ok.ensures.whole h;
}
