use Rattle.bw_model.proofs.format_laws.steps_or_nothing.Goals as goal
use Rattle.bw_model.proofs.Cases.{steps_or_nothing, others_change_nothing, steps_are_short, steps_keep_worlds_too}

pub returns-clause-cases : goal.returns-clause-cases
returns-clause-cases c = steps_or_nothing

pub returns-clause-others : goal.returns-clause-others
returns-clause-others c = others_change_nothing

pub returns-clause-short : goal.returns-clause-short
returns-clause-short c = steps_are_short

pub returns-clause-worlds : goal.returns-clause-worlds
returns-clause-worlds c = steps_keep_worlds_too
