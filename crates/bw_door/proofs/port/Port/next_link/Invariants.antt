use Rattle.std.proofs.Common.{◌≡◌, ◌≤◌}
use Rattle.bw_door.proofs.port.Port.next_link.Given as goal

abbrev pub invariant-looks : goal.invariant-looks
invariant-looks g l = (l.crowd.out ≡ l.initial.crowd.out) × (l.refusals ≤ 100)
