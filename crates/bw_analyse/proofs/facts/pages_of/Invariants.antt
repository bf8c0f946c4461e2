use Rattle.std.proofs.Common.{◌≡◌, ◌++◌, [], drop, map, slice_index_or}
use Rattle.bw_flow.specs.View.{seen}
use Rattle.bw_analyse.specs.Facts.{names_at, summary_at, page_of}
use Rattle.bw_analyse.specs.Rounds.{Placed, placed}
use Rattle.bw_analyse.proofs.facts.pages_of.Given as goal

abbrev pub invariant-loop-place : goal.invariant-loop-place
invariant-loop-place l =
    let service = l.ground.typed.now.service in
    let page = λ (x : Placed). summary_at service (names_at service (λ p. slice_index_or l.rows p []) x) (page_of x.step.act) in
    l.pages.items ++ map page (placed l.place (map seen (drop l.place l.ground.points.now))) ≡ map page (placed 0 (map seen l.ground.points.now))
