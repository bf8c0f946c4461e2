use Rattle.bw_model.proofs.format_laws.stored_are_within.Goals as goal
use Rattle.bw_model.proofs.Storing.{empty_is_within, steps_keep_within, streams_keep_within}

pub returns-clause-empty : goal.returns-clause-empty
returns-clause-empty c = empty_is_within

pub returns-clause-steps : goal.returns-clause-steps
returns-clause-steps c = steps_keep_within

pub returns-clause-streams : goal.returns-clause-streams
returns-clause-streams c = streams_keep_within
