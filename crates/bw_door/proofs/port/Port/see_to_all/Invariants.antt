use Rattle.std.proofs.Common.{◌≡◌}
use Rattle.bw_door.proofs.port.Port.see_to_all.Given as goal

abbrev pub invariant-changes : goal.invariant-changes
invariant-changes g l = l.crowd.out ≡ l.initial.crowd.out
