use Rattle.std.proofs.Common.{◌≡◌, ◌<◌, ◌≤◌, ◌+◌, length}
use Rattle.bw_run.specs.Code.{IsSound}
use Rattle.bw_run.specs.Walks.{measure, HasKindsAt}
use Rattle.bw_run.proofs.Measures.{Follows}
use Rattle.bw_run.proofs.walk.walk.Given as goal

abbrev pub invariant-walk : goal.invariant-walk
invariant-walk g l = record {
  inside : l.at < length l.flow.steps;
  follows : Follows l.typed.service l.flow.steps l.fn.start l.initial.standing l.at l.standing;
  sound : IsSound l.typed.service.templates l.standing;
  kinds : HasKindsAt l.typed.service l.flow.steps l.at l.standing;
  left : l.standing.units ≤ l.initial.standing.units;
  steps : l.steps + l.standing.units ≡ l.initial.steps + l.initial.standing.units;
}

abbrev pub decreases-walk : goal.decreases-walk
decreases-walk g l = measure l.flow.steps l.at l.standing.units
