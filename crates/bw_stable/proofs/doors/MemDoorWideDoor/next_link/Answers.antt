use Rattle.bw_stable.proofs.Counting.{counts_next}
use Rattle.bw_stable.proofs.doors.MemDoorWideDoor.next_link.Goals as goal

pub returns-clause-out : goal.returns-clause-out
returns-clause-out c = counts_next c.args.self.now c.next.new.self c.next.result c.next.ensures.first
