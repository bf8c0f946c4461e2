use Rattle.bw_typed.proofs.Spelled.{sessions_say_tokens, shared_say_tokens}
use Rattle.bw_typed.proofs.laws.strings_are_tokens.Goals as goal

pub returns-clause-sessions : goal.returns-clause-sessions
returns-clause-sessions c = sessions_say_tokens

pub returns-clause-shared : goal.returns-clause-shared
returns-clause-shared c = shared_say_tokens
