use Rattle.std.proofs.Common.{◌≡◌, ◌++◌, take}
use Rattle.std.specs.List.{flat_map}
use Rattle.bw_eval.specs.declared.values.Variable.{Variable}
use Rattle.bw_saved.specs.Values.Layout.{value}
use Rattle.bw_save.proofs.values.put_all.Given as goal

abbrev pub invariant-loop-variable : goal.invariant-loop-variable
invariant-loop-variable l = l.out.items ≡ l.fn.out.items ++ flat_map (λ (x : Variable). value x.value) (take l.variable-index l.all)
