use Rattle.std.proofs.Common.{◌≡◌, drop, map}
use Rattle.bw_meaning.specs.Statements.{received}
use Rattle.std.proofs.Common.{List}
use Rattle.std.specs.List.{All}
use Rattle.bw_lang.specs.declared.service.Template.{Template}
use Rattle.bw_lang.specs.Service.Submissions.{values_of}
use Rattle.bw_run.specs.Code.{state, AreShort, IsSound}
use Rattle.bw_run.specs.Follow.Runs.{plain}
use Rattle.bw_run.proofs.receiving.receive_all.Given as goal

abbrev pub invariant-loop-received : goal.invariant-loop-received
invariant-loop-received l = record {
  rest : received (map plain (drop l.received-index l.receives)) l.form (state l.standing) ≡ received (map plain l.receives) l.form
      (state l.initial.standing);
  sound : (templates : List Template) → IsSound templates l.initial.standing → All (λ r. AreShort (values_of r.field l.form)) l.receives →
      IsSound templates l.standing;
  rests : l.standing.rests ≡ l.initial.standing.rests;
  units : l.standing.units ≡ l.initial.standing.units;
}
