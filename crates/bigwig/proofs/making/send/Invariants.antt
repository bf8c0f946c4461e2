use Rattle.std.proofs.Common.{◌≡◌, ◌≤◌, ◌+◌, ◌*◌}
use Rattle.bigwig.proofs.Sending.{IsOnTheWay}
use Rattle.bigwig.proofs.making.send.Given as goal

abbrev pub invariant-loop-turn : goal.invariant-loop-turn
invariant-loop-turn g l = record {
  way : IsOnTheWay l.fn.world.service l.world l.sent l.turn l.count;
  service : l.world.service ≡ l.fn.world.service;
  few : l.sent ≤ (l.turn + 1) * 18446744073709551615;
}
