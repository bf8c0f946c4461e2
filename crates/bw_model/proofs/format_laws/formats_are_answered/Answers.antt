use Rattle.bw_model.proofs.format_laws.formats_are_answered.Goals as goal
use Rattle.bw_model.proofs.Answering.{formats_are_answered, some_decides}

pub returns-clause-answered : goal.returns-clause-answered
returns-clause-answered c = formats_are_answered

pub returns-clause-some : goal.returns-clause-some
returns-clause-some c = some_decides
