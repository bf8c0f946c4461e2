use Rattle.bigwig.proofs.Due.{some_status, one_status, comes_where_due, does_its_work, door_faults_serve, journals_are_kept}
use Rattle.bigwig.proofs.Due.{check_is_done, valid_is_done}
use Rattle.bigwig.proofs.TooMuch.{saves_are_refused}
use Rattle.bigwig.proofs.Refused.{scripts_are_refused}
use Rattle.bigwig.proofs.laws.one_outcome.Goals as goal

pub returns : goal.returns
returns c = record {
  some = some_status;
  one = one_status;
  comes = comes_where_due;
  complete = does_its_work;
  door_fault = door_faults_serve;
  journal = journals_are_kept;
  save = saves_are_refused;
  script = scripts_are_refused;
  check = check_is_done;
  valid = valid_is_done;
}
