use Rattle.std.proofs.Common.{◌≡◌, [], drop, length, map}
use Rattle.bw_flow.specs.View.{seen}
use Rattle.bw_analyse.specs.Facts.{rows_of}
use Rattle.bw_analyse.specs.Noting.{noted_all}
use Rattle.bw_analyse.proofs.gaps.faults_of.Given as goal

abbrev pub invariant-loop-place : goal.invariant-loop-place
invariant-loop-place l =
    let service = l.ground.typed.now.service in
    let shared = rows_of l.facts (length l.ground.points.now) in
    noted_all service (rows_of l.facts) shared l.place (map seen (drop l.place l.ground.points.now)) l.faults
    ≡ noted_all service (rows_of l.facts) shared 0 (map seen l.ground.points.now) []
