use Rattle.bw_load.proofs.Kept.{sessions_are_fit, shared_are_fit}
use Rattle.bw_load.proofs.laws.saved_is_fit.Goals as goal

pub returns-clause-sessions : goal.returns-clause-sessions
returns-clause-sessions c = sessions_are_fit

pub returns-clause-shared : goal.returns-clause-shared
returns-clause-shared c = shared_are_fit
