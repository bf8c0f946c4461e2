use Rattle.bw_check.proofs.OneReport.{one_report}
use Rattle.bw_check.proofs.laws.one_report.Goals as goal

pub returns : goal.returns
returns c = one_report c.args.typed.now
