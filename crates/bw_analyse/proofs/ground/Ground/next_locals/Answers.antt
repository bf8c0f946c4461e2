use Rattle.std.proofs.Common.{[]}
use Rattle.std.specs.Prelude.{slice_index_or}
use Rattle.bw_flow.specs.Layout.{flow_of}
use Rattle.bw_analyse.specs.Rounds.{next_local}
use Rattle.bw_analyse.proofs.Points.{map_next}
use Rattle.bw_analyse.proofs.ground.Ground.next_locals.Goals as goal

pub loop-local-preserved : goal.loop-local-preserved
loop-local-preserved c =
    let service = c.args.self.now.typed.now.service in
    map_next (next_local service (flow_of service) (λ k. slice_index_or c.args.rows.now k []) c.args.arrows.now) c.as_slice-local-items.result.now
    c.loop-local.local-index c.local-item.result c.loop-local.row _ c.in_ok-next_local.field-0 c.loop-local-test.true c.local-item.is
    c.in_ok-next_local.ensures c.in_ok-push.ensures c.loop-local.invariant
