use Rattle.std.proofs.Common.{◌≡◌, ◌+◌, ◌*◌, drop, length}
use Rattle.bw_blame.specs.Blames.{blames_receives}
use Rattle.bw_blame.proofs.parts.received.Given as goal

abbrev pub invariant-loop-receive : goal.invariant-loop-receive
invariant-loop-receive l = record {
  ends : l.at + 4 * length (drop l.receive-index l.receives) ≡ l.p + 4 * length l.receives;
  rest : blames_receives l.names.service.now l.locals l.d l.p l.receives
      ≡ blames_receives l.names.service.now l.locals l.d l.at (drop l.receive-index l.receives);
}
