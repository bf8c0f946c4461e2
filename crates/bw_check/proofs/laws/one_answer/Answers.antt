use Rattle.bw_check.proofs.OneAnswer.{one_list, accepted_has_none, has_none_is_accepted}
use Rattle.bw_check.proofs.laws.one_answer.Goals as goal

pub returns-clause-one_list : goal.returns-clause-one_list
returns-clause-one_list c = one_list c.args.typed.now

pub returns-clause-none : goal.returns-clause-none
returns-clause-none c = accepted_has_none c.args.typed.now

pub returns-clause-accepted : goal.returns-clause-accepted
returns-clause-accepted c = has_none_is_accepted c.args.typed.now
