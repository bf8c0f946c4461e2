use Rattle.std.proofs.Common.{sym, ◌∙◌, refl, map, subst}
use Rattle.bw_lang.specs.Service.Submissions.{values_of}
use Rattle.bw_meaning.specs.Statements.{received}
use Rattle.bw_run.specs.Code.{state, AreShort}
use Rattle.bw_run.specs.Follow.Runs.{plain}
use Rattle.bw_run.proofs.Receivings.{received_next}
use Rattle.bw_run.proofs.receiving.receive_all.Goals as goal

pub loop-received-init : goal.loop-received-init
loop-received-init c = record { rest = refl; sound = λ ts h a. h; rests = refl; units = refl }

pub loop-received-preserved : goal.loop-received-preserved
loop-received-preserved c = record {
  rest = received_next c.args.receives.now c.loop-received.received-index c.received-item.result c.args.form.now (state c.loop-received.standing)
      (state c.receive.new.standing) (received (map plain c.args.receives.now) c.args.form.now (state c.args.standing.now)) c.received-item.is
      c.loop-received-test.true c.in_ok-receive.ensures.state c.loop-received.invariant.rest;
  sound = λ ts h a. c.in_ok-receive.ensures.sound ts (c.loop-received.invariant.sound ts h a)
      (subst (λ r. AreShort (values_of r.field c.args.form.now)) (sym c.received-item.is)
      (a c.loop-received.received-index c.received-item.result c.loop-received-test.true));
  rests = c.receive.ensures.rests ∙ c.loop-received.invariant.rests;
  units = c.receive.ensures.units ∙ c.loop-received.invariant.units;
}
