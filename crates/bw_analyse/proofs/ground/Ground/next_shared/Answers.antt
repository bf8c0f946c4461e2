use Rattle.std.proofs.Common.{◌-◌, ◌<◌, [], length, arith}
use Rattle.std.specs.Prelude.{slice_index_or}
use Rattle.bw_analyse.specs.Abstracts.{both, least_of}
use Rattle.bw_analyse.specs.Known.{of_literal}
use Rattle.bw_flow.specs.Layout.{flow_of}
use Rattle.bw_analyse.specs.Rounds.{added_by, Placed}
use Rattle.bw_analyse.proofs.Points.{added_more, count_is}
use Rattle.bw_analyse.proofs.ground.Ground.next_shared.Goals as goal

pub loop-place-preserved : goal.loop-place-preserved
loop-place-preserved c =
    let g = c.args.self.now in
    let service = g.typed.now.service in
    let flow = flow_of service in
    let rows = c.args.rows.now in
    let v = c.args.variable.now in
    let i = c.loop-place.place - 1 in
    let count = count_is g.points.now flow g.points_are in
    let within : i < length flow = omega arith in
    added_more
    (λ (x : Placed). added_by service x.step.scope (slice_index_or rows x.place []) (slice_index_or rows (length flow) []) v.name x.step.act)
    flow i c.loop-place.place (both (of_literal service v.init) (least_of v.kind)) c.in_ok-all-2.all c.loop-place.all (omega arith) within
    c.in_ok-all-2.ensures c.loop-place.invariant
