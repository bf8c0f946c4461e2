use Rattle.bw_check.proofs.Within.PageGraphs.{pages_are_graphs}
use Rattle.bw_check.proofs.laws.pages_are_graphs.Goals as goal

pub returns : goal.returns
returns c = pages_are_graphs c.args.typed.now
