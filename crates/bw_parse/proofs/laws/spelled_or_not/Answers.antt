use Rattle.bw_parse.proofs.Answered.{spelled_or_not}
use Rattle.bw_parse.proofs.laws.spelled_or_not.Goals as goal

pub returns : goal.returns
returns c = spelled_or_not
