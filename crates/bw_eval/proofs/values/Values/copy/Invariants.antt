use Rattle.std.proofs.Common.{◌≡◌, take, map}
use Rattle.bw_eval.proofs.Lookups.{pair}
use Rattle.bw_eval.proofs.values.Values.copy.Given as goal

abbrev pub invariant-loop-variable : goal.invariant-loop-variable
invariant-loop-variable l = map pair l.list.items ≡ map pair (take l.variable-index l.variable-items)
