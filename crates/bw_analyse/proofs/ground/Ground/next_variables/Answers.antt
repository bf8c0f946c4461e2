use Rattle.std.proofs.Common.{[]}
use Rattle.std.specs.Prelude.{slice_index_or}
use Rattle.bw_flow.specs.Layout.{flow_of}
use Rattle.bw_analyse.specs.Rounds.{next_shared}
use Rattle.bw_analyse.proofs.Points.{map_next}
use Rattle.bw_analyse.proofs.ground.Ground.next_variables.Goals as goal

pub loop-variable-preserved : goal.loop-variable-preserved
loop-variable-preserved c =
    let service = c.args.self.now.typed.now.service in
    map_next (next_shared service (flow_of service) (λ k. slice_index_or c.args.rows.now k [])) c.as_slice-variable-items.result.now
    c.loop-variable.variable-index c.variable-item.result c.loop-variable.row _ c.in_ok-next_shared.field-0 c.loop-variable-test.true
    c.variable-item.is c.in_ok-next_shared.ensures c.in_ok-push.ensures c.loop-variable.invariant
