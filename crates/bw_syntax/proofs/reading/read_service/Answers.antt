use Rattle.std.proofs.Common.{Err}
use Rattle.bw_syntax.proofs.Stages.{untold_refuses, only_read, only_refused}
use Rattle.bw_syntax.proofs.reading.read_service.Goals as goal

pub returns-in-Err-clause-only : goal.returns-in-Err-clause-only
returns-in-Err-clause-only c = only_read (Err c.in-Err.fault) c.args.bytes.now tt (untold_refuses c.args.bytes.now c.in-Err.fault c.in-Err.ensures.untold)

pub returns-in-Err-clause-refused : goal.returns-in-Err-clause-refused
returns-in-Err-clause-refused c = untold_refuses c.args.bytes.now c.in-Err.fault c.in-Err.ensures.untold

pub returns-in-Err-clause-only_refused : goal.returns-in-Err-clause-only_refused
returns-in-Err-clause-only_refused c =
    only_refused (Err c.in-Err.fault) c.args.bytes.now tt (untold_refuses c.args.bytes.now c.in-Err.fault c.in-Err.ensures.untold)
