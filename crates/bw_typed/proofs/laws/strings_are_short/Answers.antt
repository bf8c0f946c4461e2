use Rattle.bw_typed.proofs.ShortServices.{sessions_have_short, shared_begin_short}
use Rattle.bw_typed.proofs.laws.strings_are_short.Goals as goal

pub returns-clause-sessions : goal.returns-clause-sessions
returns-clause-sessions c = sessions_have_short

pub returns-clause-shared : goal.returns-clause-shared
returns-clause-shared c = shared_begin_short
