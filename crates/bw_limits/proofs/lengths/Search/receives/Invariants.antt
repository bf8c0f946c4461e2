use Rattle.std.proofs.Common.{◌≡◌, drop, find}
use Rattle.std.specs.Prelude.{nat_lt}
use Rattle.bw_lang.specs.Service.Limits.{receive_lengths}
use Rattle.bw_limits.proofs.lengths.Search.receives.Given as goal

abbrev pub invariant-loop-receive : goal.invariant-loop-receive
invariant-loop-receive l =
    find (nat_lt l.self.most) (receive_lengths l.self.leaf (drop l.receive-index l.receive-items))
    ≡ find (nat_lt l.self.most) (receive_lengths l.self.leaf l.receives)
