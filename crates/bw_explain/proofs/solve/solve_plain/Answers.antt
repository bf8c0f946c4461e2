use Rattle.std.proofs.Common.{refl, arith}
use Rattle.std.proofs.lemmas.Bool.{false≢true}
use Rattle.std.proofs.lemmas.Result.{IfOk-weaker}
use Rattle.std.proofs.Common.{sym}
use Rattle.bw_explain.proofs.Given.{plain_solved, fair_plain}
use Rattle.bw_explain.proofs.solve.solve_plain.Goals as goal

pub seek-plain-requires-clause-given : goal.seek-plain-requires-clause-given
seek-plain-requires-clause-given c = λ h. record {
  states = (omega arith, omega arith);
  zero = λ o. refl;
  plain = λ o. absurd (false≢true (sym o));
  known = λ x y a b d e. absurd (e (omega (arith, a, b, d)) (omega (arith, a, b, d)));
  fair = fair_plain c.args.page.now;
}

pub returns : goal.returns
returns c = IfOk-weaker c.seek-plain.result _ _ (λ t h. plain_solved c.args.page.now t (h (omega arith))) c.seek-plain.ensures
