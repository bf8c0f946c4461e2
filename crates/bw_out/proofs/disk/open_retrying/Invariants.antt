use Rattle.std.proofs.Common.{◌≡◌, None}
use Rattle.bw_out.proofs.disk.open_retrying.Given as goal

abbrev pub invariant-loop-turn : goal.invariant-loop-turn
invariant-loop-turn g l = record {
  interrupted : l.tries.interrupted ≡ l._turn;
  end : l.tries.end ≡ None;
}
