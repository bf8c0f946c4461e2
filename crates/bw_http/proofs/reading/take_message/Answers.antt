use Rattle.std.proofs.Common.{sym, ◌∙◌}
use Rattle.bw_http.proofs.Messages.{message_rest, same_message}
use Rattle.bw_http.proofs.reading.take_message.Goals as goal

pub returns : goal.returns
returns c m = (
  c.consume.ensures ∙ message_rest c.args.intake.now c.args.parts m,
  c.make-made.ensures (same_message c.args.intake.now c.bytes.result.now c.args.parts (sym c.bytes.ensures.value) m),
)
