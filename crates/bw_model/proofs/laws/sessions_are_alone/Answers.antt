use Rattle.bw_model.proofs.laws.sessions_are_alone.Goals as goal
use Rattle.bw_model.proofs.Alone.{sessions_are_alone, runs_agree}
use Rattle.bw_model.proofs.Replies.{replies_are_answers}

pub returns-clause-own : goal.returns-clause-own
returns-clause-own c = sessions_are_alone

pub returns-clause-alike : goal.returns-clause-alike
returns-clause-alike c = runs_agree

pub returns-clause-replies : goal.returns-clause-replies
returns-clause-replies c = replies_are_answers
