use Rattle.std.proofs.Common.{◌≡◌, drop}
use Rattle.bw_saved.proofs.Loop.{with_front}
use Rattle.bw_run.specs.Follow.Kinds.{kinds_in}
use Rattle.bw_saved.specs.Values.Reading.{variables_at}
use Rattle.bw_saved.proofs.values.locals_at.Given as goal

abbrev pub invariant-loop-local : goal.invariant-loop-local
invariant-loop-local l =
    with_front l.values (variables_at l.typed.service (kinds_in (drop l.local-index l.scope)) l.rest) ≡ variables_at l.typed.service (kinds_in l.scope) l.bytes
