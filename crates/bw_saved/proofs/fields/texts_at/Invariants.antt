use Rattle.std.proofs.Common.{◌≡◌, ◌-◌}
use Rattle.bw_saved.specs.Fields.Reading.{text_at, repeated}
use Rattle.bw_saved.proofs.Loop.{with_front}
use Rattle.bw_saved.proofs.fields.texts_at.Given as goal

abbrev pub invariant-loop : goal.invariant-loop
invariant-loop l = with_front l.texts (repeated text_at (l.count - l.counter) l.rest) ≡ repeated text_at l.count l.bytes
