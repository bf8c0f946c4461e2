use Rattle.std.proofs.Common.{◌≡◌, take, map}
use Rattle.bw_eval.specs.View.{values}
use Rattle.bw_eval.proofs.Lookups.{pair}
use Rattle.bw_meaning.specs.Values.{weights}
use Rattle.bw_eval.proofs.values.Values.weight.Given as goal

abbrev pub invariant-loop-variable : goal.invariant-loop-variable
invariant-loop-variable l = l.total ≡ weights (values (map pair (take l.variable-index l.variable-items)))
