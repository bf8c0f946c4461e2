use Rattle.std.proofs.Common.{◌≡◌, take}
use Rattle.bw_lang.proofs.stmt.Receives.copy.Given as goal

abbrev pub invariant-loop-receive : goal.invariant-loop-receive
invariant-loop-receive l = l.list.items ≡ take l.receive-index l.receive-items
