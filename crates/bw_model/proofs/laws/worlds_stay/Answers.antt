use Rattle.bw_model.proofs.laws.worlds_stay.Goals as goal
use Rattle.bw_model.proofs.Kept.{empty_is_world, steps_keep_worlds}

pub returns-clause-empty : goal.returns-clause-empty
returns-clause-empty c = empty_is_world

pub returns-clause-steps : goal.returns-clause-steps
returns-clause-steps c = steps_keep_worlds
