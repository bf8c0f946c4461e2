use Rattle.std.proofs.Common.{◌≡◌, ℕ, List, subst}
use Rattle.std.specs.Io.KnownBytes.{IsAtEnd}
use Rattle.std.proofs.lemmas.Bool.{false≢true}
use Rattle.bw_http.specs.declared.request.ReadOutcome.TheVariants.{ReadFault}
use Rattle.bw_http.specs.Messages.{IsDenied}
use Rattle.bw_out.proofs.TakeLaws.{took, took_more, no_fault}
use Rattle.bw_http.proofs.Tests.{denied_refusal, denied_no_fault}
use Rattle.bw_http.proofs.Messages.{message_read, message_taken, ended_outcome, same_message, filled_more}
use Rattle.bw_http.proofs.reading.take_request.Goals as goal

pub returns-in-Denied-clause-taken : goal.returns-in-Denied-clause-taken
returns-in-Denied-clause-taken g c = record {
  have = c.turns.intake;
  filled = c.turns.invariant.filled;
  outcome = denied_refusal c.turns.intake _ c.in-Denied.e (subst (λ (t : List ℕ). IsDenied t c.in-Denied.e) c.bytes.ensures.value c.in-Denied.ensures);
}

pub returns-in-Denied-clause-takes : goal.returns-in-Denied-clause-takes
returns-in-Denied-clause-takes g c =
    no_fault c.turns.invariant.took (λ fault.
    let same : c.in-Denied.e ≡ ReadFault = cc in
    denied_no_fault c.bytes.result.now c.in-Denied.e c.in-Denied.ensures same)

pub returns-in-Ok-clause-taken : goal.returns-in-Ok-clause-taken
returns-in-Ok-clause-taken g c =
    let m = same_message c.bytes.result.now c.turns.intake c.in-Whole.parts c.bytes.ensures.value c.in-Whole.ensures in
    let done = c.in-Ok.ensures m in
    let ended = IsAtEnd (g.S.Channel.left c.turns.source) in
    record {
      have = c.turns.intake;
      filled = c.turns.invariant.filled;
      outcome = message_read c.turns.intake ended c.in-Whole.parts m c.in-Ok.request c.take_message.new.intake done.0 done.1;
    }

pub returns-in-Err-clause-taken : goal.returns-in-Err-clause-taken
returns-in-Err-clause-taken g c =
    let m = same_message c.bytes.result.now c.turns.intake c.in-Whole.parts c.bytes.ensures.value c.in-Whole.ensures in
    record {
      have = c.turns.intake;
      filled = c.turns.invariant.filled;
      outcome = message_taken c.turns.intake (IsAtEnd (g.S.Channel.left c.turns.source)) c.in-Whole.parts m c.take_message.new.intake (c.in-Err.ensures m).0;
    }

pub returns-in-Ok-false-clause-taken : goal.returns-in-Ok-false-clause-taken
returns-in-Ok-false-clause-taken g c =
    let ended = c.in-Ok-false.ensures.ended c.in-Ok-false.field-0-test in
    record {
      have = c.fill.new.intake;
      filled = filled_more _ _ _ _ _ _ c.turns.invariant.filled c.in-Ok-false.ensures.filled;
      outcome = ended_outcome c.fill.new.intake _ c.at_end.result c.at_end.ensures.end c.at_end.ensures.truncated ended.0 ended.1;
    }

pub turns-preserved : goal.turns-preserved
turns-preserved g c = record {
  filled = filled_more _ _ _ _ _ _ c.turns.invariant.filled c.in-Ok-true.ensures.filled;
  took = took_more g.S.Channel g.met.S.Source.same_trans c.turns.invariant.took (took c.in-Ok-true.ensures.takes (λ e. absurd (false≢true e)));
}
