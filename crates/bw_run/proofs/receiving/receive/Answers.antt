use Rattle.std.proofs.Common.{sym, subst}
use Rattle.bw_run.specs.Code.{AreShort}
use Rattle.bw_run.proofs.receiving.receive.Goals as goal

pub returns-clause-sound : goal.returns-clause-sound
returns-clause-sound c ts sound short =
    c.store.ensures.sound ts sound (c.in_ok-new.ensures.sound ts (subst AreShort (sym c.in_ok-values.ensures) short))
