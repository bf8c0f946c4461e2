use Rattle.std.proofs.Common.{arith}
use Rattle.bw_journal.proofs.SavedWorlds.{none_by_length, none_by_size}
use Rattle.bw_journal.proofs.saving.next_saved.Goals as goal

pub returns-in-None : goal.returns-in-None
returns-in-None c = none_by_size c.args.sum c.args.bytes.now c.in-None.ensures

pub returns-then-bytes-size : goal.returns-then-bytes-size
returns-then-bytes-size c = none_by_length c.args.sum c.args.bytes.now (omega (arith, c.if-bytes-size.true, c.in-Some.ensures.2))
