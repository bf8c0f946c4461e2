use Rattle.std.proofs.Common.{◌≡◌, drop}
use Rattle.std.specs.List.{list_all}
use Rattle.bw_eval.specs.declared.values.Variable.{Variable}
use Rattle.bw_save.specs.Filled.{is_filled_value}
use Rattle.bw_save.proofs.filled.all_filled.Given as goal

abbrev pub invariant-loop-variable : goal.invariant-loop-variable
invariant-loop-variable l =
    list_all (λ (x : Variable). is_filled_value l.typed.service x.value) (drop l.variable-index l.all)
    ≡ list_all (λ (x : Variable). is_filled_value l.typed.service x.value) l.all
