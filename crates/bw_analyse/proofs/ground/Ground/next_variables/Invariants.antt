use Rattle.std.proofs.Common.{◌≡◌, [], take, map, slice_index_or}
use Rattle.bw_flow.specs.Layout.{flow_of}
use Rattle.bw_analyse.specs.Rounds.{next_shared}
use Rattle.bw_analyse.proofs.ground.Ground.next_variables.Given as goal

abbrev pub invariant-loop-variable : goal.invariant-loop-variable
invariant-loop-variable l =
    let service = l.self.typed.now.service in
    l.row ≡ map (next_shared service (flow_of service) (λ c. slice_index_or l.rows c [])) (take l.variable-index l.variable-items)
