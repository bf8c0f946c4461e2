use Rattle.bw_typed.proofs.Utf8.{sessions_are_utf8, shared_are_utf8}
use Rattle.bw_typed.proofs.laws.strings_are_utf8.Goals as goal

pub returns-clause-sessions : goal.returns-clause-sessions
returns-clause-sessions c = sessions_are_utf8

pub returns-clause-shared : goal.returns-clause-shared
returns-clause-shared c = shared_are_utf8
