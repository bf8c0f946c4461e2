use Rattle.std.proofs.Common.{length, sym, ap, arith}
use Rattle.std.proofs.lemmas.Result.{err_from_is_err_and}
use Rattle.std.proofs.lemmas.Bool.{false≢true}
use Rattle.bw_out.proofs.TakeLaws.{took, took_more, then_takes, no_fault}
use Rattle.bw_http.proofs.Messages.{filled_more, filled_none}
use Rattle.bw_http.proofs.reading.fill_to.Goals as goal

pub more-preserved : goal.more-preserved
more-preserved g c =
    let before = c.more.invariant in
    record {
      filled = filled_more _ _ _ _ _ _ before.filled c.in_ok-fill.ensures.taken;
      took = took_more g.S.Channel g.met.S.Source.same_trans before.took (took c.in_ok-fill.ensures.takes (λ e. absurd (false≢true e)));
    }

pub returns-in_err-fill : goal.returns-in_err-fill
returns-in_err-fill g c =
    let before = c.more.invariant in
    let same = c.in_err-fill.ensures.unchanged in
    let p = err_from_is_err_and c.from_residual.result c.from_residual.ensures.1 in
    rw p.1 (record {
      filled = filled_more _ _ _ _ _ _ before.filled (filled_none _ _ _ _ c.in_err-fill.ensures.kept same);
      reached = tt;
      ended = tt;
      short = omega (arith, ap length same, ap length c.bytes.ensures.value, c.more-test.true);
      takes = then_takes g.S.Channel g.met.S.Source.same_trans before.took c.in_err-fill.ensures.takes;
    })

pub returns : goal.returns
returns g c =
    let before = c.more.invariant in
    record {
      filled = before.filled;
      reached = λ _. omega (arith, ap length c.bytes.ensures.value, c.more-test.false);
      ended = λ e. absurd (false≢true (sym e));
      short = tt;
      takes = no_fault before.took false≢true;
    }
