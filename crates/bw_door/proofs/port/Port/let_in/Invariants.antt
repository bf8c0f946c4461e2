use Rattle.std.proofs.Common.{◌≡◌}
use Rattle.bw_door.proofs.port.Port.let_in.Given as goal

abbrev pub invariant-clients : goal.invariant-clients
invariant-clients g l = l.crowd.out ≡ l.initial.crowd.out
