use Rattle.std.proofs.Common.{◌≡◌, [], take, map, slice_index_or}
use Rattle.bw_flow.specs.Layout.{flow_of}
use Rattle.bw_analyse.specs.Rounds.{next_local}
use Rattle.bw_analyse.proofs.ground.Ground.next_locals.Given as goal

abbrev pub invariant-loop-local : goal.invariant-loop-local
invariant-loop-local l =
    let service = l.self.typed.now.service in
    l.row ≡ map (next_local service (flow_of service) (λ c. slice_index_or l.rows c []) l.arrows) (take l.local-index l.local-items)
