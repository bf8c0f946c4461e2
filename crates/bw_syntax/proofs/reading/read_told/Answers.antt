use Rattle.bw_syntax.proofs.Stages.{only_read, only_refused}
use Rattle.bw_syntax.proofs.reading.read_told.Goals as goal

pub returns-clause-only : goal.returns-clause-only
returns-clause-only c = only_read c.read.result c.args.bytes.now c.read.ensures.read c.read.ensures.refused

pub returns-clause-only_refused : goal.returns-clause-only_refused
returns-clause-only_refused c = only_refused c.read.result c.args.bytes.now c.read.ensures.read c.read.ensures.refused
