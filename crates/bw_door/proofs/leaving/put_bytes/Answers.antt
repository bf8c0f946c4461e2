-- What a write took is no longer left.
use Rattle.bw_door.proofs.Sending.{keeps_sent}
use Rattle.bw_door.proofs.leaving.put_bytes.Goals as goal

pub returns-in-Ok-clause-kept : goal.returns-in-Ok-clause-kept
returns-in-Ok-clause-kept g c = keeps_sent _ _ c.args.from c.in-Ok.count c.args.bytes.now c.in-Ok.ensures.bytes
