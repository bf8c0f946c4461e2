use Rattle.std.proofs.Common.{◌≡◌, take, map}
use Rattle.bw_lang.specs.declared.service.Shared.{Shared}
use Rattle.bw_analyse.specs.Abstracts.{least_of}
use Rattle.bw_analyse.proofs.ground.Ground.no_variables.Given as goal

abbrev pub invariant-loop-variable : goal.invariant-loop-variable
invariant-loop-variable l = l.row ≡ map (λ (x : Shared). least_of x.kind) (take l.variable-index l.variable-items)
