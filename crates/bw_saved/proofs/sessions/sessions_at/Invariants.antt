use Rattle.std.proofs.Common.{◌≡◌, ◌-◌}
use Rattle.bw_saved.specs.Fields.Reading.{repeated}
use Rattle.bw_saved.specs.Sessions.Reading.{session_at}
use Rattle.bw_saved.proofs.Loop.{with_front}
use Rattle.bw_saved.proofs.sessions.sessions_at.Given as goal

abbrev pub invariant-loop : goal.invariant-loop
invariant-loop l = with_front l.records (repeated (session_at l.typed.service l.flow l.next) (l.count - l.counter) l.rest) ≡ repeated
    (session_at l.typed.service l.flow l.next) l.count l.bytes
