use Rattle.bw_questions.proofs.sight.sight_if.Goals as goal

pub returns-in_ok-sight_of-in-Some-clause-marked : goal.returns-in_ok-sight_of-in-Some-clause-marked
returns-in_ok-sight_of-in-Some-clause-marked c = rw c.in-Some.is c.in_ok-sight_of-in-Some.ensures.marked
