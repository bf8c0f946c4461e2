use Rattle.std.proofs.Common.{◌≡◌, [], drop, slice_index_or}
use Rattle.std.specs.Prelude.{slice_get}
use Rattle.bw_analyse.specs.Abstracts.{least_of}
use Rattle.bw_flow.specs.Layout.{flow_of}
use Rattle.bw_analyse.specs.Rounds.{joined, left_at}
use Rattle.bw_analyse.specs.declared.arrows.Arrow.{Arrow}
use Rattle.bw_analyse.proofs.ground.Ground.next_local.Given as goal

abbrev pub invariant-loop-i : goal.invariant-loop-i
invariant-loop-i l =
    let service = l.self.typed.now.service in
    l.all ≡ joined (λ (a : Arrow). left_at service (flow_of service) (λ c. slice_index_or l.rows c []) l.local.name a (slice_get (flow_of service) a.from))
    (drop l.i l.arrows) (least_of l.local.kind)
