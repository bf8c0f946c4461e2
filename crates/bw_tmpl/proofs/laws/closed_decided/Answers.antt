use Rattle.bw_tmpl.proofs.Answered.{closed_read_or_refused}
use Rattle.bw_tmpl.proofs.Deciding.{one_closed_template, not_both_closed, one_closed_reason}
use Rattle.bw_tmpl.proofs.laws.closed_decided.Goals as goal

pub returns : goal.returns
returns c = record { one = one_closed_template; not_both = not_both_closed; reason = one_closed_reason; always = closed_read_or_refused }
