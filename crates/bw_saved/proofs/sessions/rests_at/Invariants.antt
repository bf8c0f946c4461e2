use Rattle.std.proofs.Common.{◌≡◌, ◌-◌}
use Rattle.bw_saved.specs.Fields.Reading.{strings_at, repeated}
use Rattle.bw_saved.proofs.Loop.{with_front}
use Rattle.bw_saved.proofs.sessions.rests_at.Given as goal

abbrev pub invariant-loop : goal.invariant-loop
invariant-loop l = with_front l.rests (repeated strings_at (l.count - l.counter) l.rest) ≡ repeated strings_at l.count l.bytes
