use Rattle.std.proofs.Common.{◌-◌, ◌<◌, [], length, arith}
use Rattle.std.specs.Prelude.{slice_get, slice_index_or}
use Rattle.std.proofs.lemmas.List.{get_or_default}
use Rattle.bw_analyse.specs.Abstracts.{least_of}
use Rattle.bw_flow.specs.Layout.{flow_of}
use Rattle.bw_analyse.specs.Rounds.{left_at}
use Rattle.bw_analyse.specs.declared.arrows.Arrow.{Arrow}
use Rattle.bw_analyse.proofs.Points.{joined_more}
use Rattle.bw_analyse.proofs.ground.Ground.next_local.Goals as goal

pub loop-i-preserved : goal.loop-i-preserved
loop-i-preserved c =
    let service = c.args.self.now.typed.now.service in
    let flow = flow_of service in
    let arrows = c.args.arrows.now in
    let i = c.loop-i.i - 1 in
    let within : i < length arrows = omega arith in
    joined_more
    (λ (a : Arrow). left_at service flow (λ k. slice_index_or c.args.rows.now k []) c.args.local.now.name a (slice_get flow a.from))
    arrows i c.loop-i.i _ (least_of c.args.local.now.kind) c.in_ok-all.all c.loop-i.all (omega arith) within (get_or_default arrows i _ _ within)
    c.in_ok-all.ensures c.loop-i.invariant
