use Rattle.std.proofs.Common.{◌≡◌, [], drop, length, slice_index_or}
use Rattle.bw_analyse.specs.Abstracts.{both, least_of}
use Rattle.bw_analyse.specs.Known.{of_literal}
use Rattle.bw_flow.specs.Layout.{flow_of}
use Rattle.bw_analyse.specs.Rounds.{joined, added_by, Placed, placed}
use Rattle.bw_analyse.proofs.ground.Ground.next_shared.Given as goal

abbrev pub invariant-loop-place : goal.invariant-loop-place
invariant-loop-place l =
    let service = l.self.typed.now.service in
    let flow = flow_of service in
    l.all ≡ joined (λ (x : Placed). added_by service x.step.scope (slice_index_or l.rows x.place [])
    (slice_index_or l.rows (length flow) []) l.variable.name x.step.act)
    (placed l.place (drop l.place flow)) (both (of_literal service l.variable.init) (least_of l.variable.kind))
