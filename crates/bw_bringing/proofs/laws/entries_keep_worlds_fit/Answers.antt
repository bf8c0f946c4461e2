use Rattle.bw_bringing.proofs.Bringing.{brings_keep_sound, brings_keep_within, brings_reach}
use Rattle.bw_bringing.proofs.laws.entries_keep_worlds_fit.Goals as goal

pub returns-clause-reach : goal.returns-clause-reach
returns-clause-reach c = brings_reach

pub returns-clause-within : goal.returns-clause-within
returns-clause-within c = brings_keep_within

pub returns-clause-sound : goal.returns-clause-sound
returns-clause-sound c = brings_keep_sound
