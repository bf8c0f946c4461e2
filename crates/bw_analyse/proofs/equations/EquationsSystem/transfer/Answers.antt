use Rattle.std.proofs.Common.{◌≡◌, ◌<◌, ◌≤◌, [], length, get_or, ◌∙◌, arith}
use Rattle.std.proofs.lemmas.List.{get_or_read}
use Rattle.bw_flow.specs.View.{seen}
use Rattle.bw_flow.specs.Layout.{flow_of}
use Rattle.bw_analyse.proofs.Points.{get_is, get_none, point_at, no_point}
use Rattle.bw_analyse.proofs.RoundLaws.{local_round, shared_round}
use Rattle.bw_analyse.proofs.equations.EquationsSystem.transfer.Goals as goal

pub returns-in_ok-next_locals-in-Some : goal.returns-in_ok-next_locals-in-Some
returns-in_ok-next_locals-in-Some c =
    let s = c.args.self.now in
    let g = s.ground.now in
    let service = g.typed.now.service in
    let flow = flow_of service in
    let cell = c.args.cell in
    let p = c.in-Some.point.now in
    let below : cell < length g.points.now = c.in-Some.ensures.lookup.3.0 in
    let within : cell < length s.arrows.items = let a = s.arrows_len in omega arith in
    let at : p ≡ get_or g.points.now cell p = c.in-Some.ensures.lookup.1 in
    local_round service flow c.args.values.now c.requires.values cell c.in_ok-next_locals-in-Some.field-0 (seen p) c.as_slice-arrows.result.now
    (point_at g.points.now flow g.points_are cell p (get_is g.points.now cell p below at))
    (c.as_slice-arrows.ensures ∙ get_or_read s.arrows.items cell c.index.result.now within c.index.ensures [] ∙ s.arrows_are cell below)
    c.in_ok-next_locals-in-Some.ensures

pub returns-in_ok-next_variables-in-None : goal.returns-in_ok-next_variables-in-None
returns-in_ok-next_variables-in-None c =
    let s = c.args.self.now in
    let g = s.ground.now in
    let service = g.typed.now.service in
    let flow = flow_of service in
    let cell = c.args.cell in
    let above : length g.points.now ≤ cell = c.in-None.ensures.lookup.3 in
    shared_round service flow c.args.values.now c.requires.values cell c.in_ok-next_variables-in-None.field-0
    (no_point g.points.now flow g.points_are cell (get_none g.points.now cell above)) c.in_ok-next_variables-in-None.ensures
