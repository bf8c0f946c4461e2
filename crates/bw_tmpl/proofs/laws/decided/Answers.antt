use Rattle.bw_tmpl.proofs.Answered.{read_or_refused}
use Rattle.bw_tmpl.proofs.Deciding.{one_template, not_both, one_reason}
use Rattle.bw_tmpl.proofs.laws.decided.Goals as goal

pub returns : goal.returns
returns c = record { one = one_template; not_both = not_both; reason = one_reason; always = read_or_refused }
