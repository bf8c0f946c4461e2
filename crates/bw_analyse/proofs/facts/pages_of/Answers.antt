use Rattle.std.proofs.Common.{◌≡◌, ◌+◌, ◌++◌, List, [], Option, drop, map, ap, ◌∙◌}
use Rattle.std.specs.Prelude.{slice_index_or}
use Rattle.bw_flow.specs.View.{act, seen}
use Rattle.bw_sum.specs.declared.summary.Summary.{Summary}
use Rattle.bw_analyse.specs.Facts.{names_at, summary_at, page_of}
use Rattle.bw_analyse.specs.Known.{look}
use Rattle.bw_flow.specs.Layout.{flow_of}
use Rattle.bw_analyse.specs.Rounds.{Placed, placed}
use Rattle.bw_analyse.proofs.Points.{placed_more, placed_end}
use Rattle.bw_analyse.proofs.facts.pages_of.Goals as goal

pub loop-place-preserved : goal.loop-place-preserved
loop-place-preserved c =
    let service = c.args.ground.now.typed.now.service in
    let rows = c.args.rows.now in
    let page = λ (x : Placed). summary_at service (names_at service (λ p. slice_index_or rows p []) x) (page_of x.step.act) in
    let points = c.args.ground.now.points.now in
    let i = c.loop-place.place in
    let x = c.point-item.result in
    let s = c.scene-scene.ensures in
    let made : c.in_ok-summary.field-0 ≡ page (record { place = i; step = seen x }) =
    c.in_ok-summary.ensures
    ∙ (λ j. summary_at (s.service j) (look (s.service j) (s.scope j) (s.locals j) (s.shared j)) (page_of (act x.what))) in
    ap (λ (ys : List (Option Summary)). ys ++ map page (placed (i + 1) (map seen (drop (i + 1) points)))) c.in_ok-push.ensures.items
    ∙ placed_more page points i x c.loop-place.pages.items _ c.in_ok-summary.field-0 c.loop-place-test.true c.point-item.is made
    c.loop-place.invariant

pub returns : goal.returns
returns c =
    let service = c.args.ground.now.typed.now.service in
    let rows = c.args.rows.now in
    let page = λ (x : Placed). summary_at service (names_at service (λ p. slice_index_or rows p []) x) (page_of x.step.act) in
    placed_end page c.args.ground.now.points.now (flow_of service) c.loop-place.place c.loop-place.pages.items c.args.ground.now.points_are
    c.loop-place-test.false c.loop-place.invariant
