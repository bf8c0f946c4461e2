use Rattle.std.proofs.Common.{◌≡◌, take, map}
use Rattle.bw_lang.specs.declared.service.Shared.{Shared}
use Rattle.bw_analyse.proofs.facts.variables_of.Given as goal

abbrev pub invariant-loop-variable : goal.invariant-loop-variable
invariant-loop-variable l = l.names.items ≡ map (λ (v : Shared). v.name) (take l.variable-index l.variable-items)
