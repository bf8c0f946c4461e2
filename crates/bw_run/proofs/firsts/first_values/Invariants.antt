use Rattle.std.proofs.Common.{◌≡◌, take, map}
use Rattle.bw_eval.specs.Sound.{AreSound}
use Rattle.bw_eval.specs.View.{values}
use Rattle.bw_run.specs.Follow.Kinds.{kinds_of}
use Rattle.bw_run.proofs.Beginnings.{first_of, kind_pair}
use Rattle.bw_run.proofs.firsts.first_values.Given as goal

abbrev pub invariant-loop-shared : goal.invariant-loop-shared
invariant-loop-shared l = record {
  values_are : values l.firsts ≡ map (first_of l.typed.service) (take l.shared-index l.shared-items);
  kinds_are : kinds_of (values l.firsts) ≡ map kind_pair (take l.shared-index l.shared-items);
  sound : AreSound l.typed.service.templates l.firsts;
}
