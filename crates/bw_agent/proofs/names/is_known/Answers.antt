use Rattle.bw_agent.proofs.Tables.{table_has}
use Rattle.bw_agent.proofs.names.is_known.Goals as goal

pub returns : goal.returns
returns c = table_has c.args.names.now c.args.name.now c.has.result c.has.ensures
