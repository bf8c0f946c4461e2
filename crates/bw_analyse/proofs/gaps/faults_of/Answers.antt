use Rattle.std.proofs.Common.{[], length, sym, ap, ◌∙◌}
use Rattle.std.specs.Prelude.{slice_index_or}
use Rattle.bw_flow.specs.View.{act}
use Rattle.bw_analyse.specs.Facts.{rows_of}
use Rattle.bw_analyse.specs.GapFaults.{term_of}
use Rattle.bw_analyse.specs.Known.{look}
use Rattle.bw_flow.specs.Layout.{flow_of}
use Rattle.bw_analyse.specs.Noting.{noted_term}
use Rattle.bw_analyse.proofs.GapLaws.{noted_more, noted_end}
use Rattle.bw_analyse.proofs.Points.{count_is}
use Rattle.bw_analyse.proofs.gaps.faults_of.Goals as goal

pub loop-place-preserved : goal.loop-place-preserved
loop-place-preserved c =
    let g = c.args.ground.now in
    let service = g.typed.now.service in
    let facts = c.args.facts.now in
    let points = g.points.now in
    let i = c.loop-place.place in
    let x = c.point-item.result in
    let s = c.scene-scene.ensures in
    let locals = s.locals ∙ ap (λ r. slice_index_or r i []) c.rows.ensures in
    let shared =
    s.shared ∙ ap (λ r. slice_index_or r (length (flow_of service)) []) c.rows.ensures
    ∙ ap (rows_of facts) (sym (count_is points (flow_of service) g.points_are)) in
    noted_more service (rows_of facts) (rows_of facts (length points)) points i x c.loop-place.faults _ _ c.loop-place-test.true c.point-item.is
    (c.in_ok-note.ensures
    ∙ (λ j. noted_term (s.service j) (look (s.service j) (s.scope j) (locals j) (shared j)) x.number (term_of (act x.what)) c.loop-place.faults))
    c.loop-place.invariant

pub returns : goal.returns
returns c =
    let g = c.args.ground.now in
    noted_end g.typed.now.service (rows_of c.args.facts.now) g.points.now (flow_of g.typed.now.service) c.loop-place.place c.loop-place.faults
    g.points_are c.loop-place-test.false c.loop-place.invariant
