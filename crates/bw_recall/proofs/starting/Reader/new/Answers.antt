use Rattle.std.proofs.Common.{arith}
use Rattle.bw_journal.proofs.HeadParts.{length-head}
use Rattle.bw_recall.proofs.starting.Reader.new.Goals as goal

pub room_for-requires : goal.room_for-requires
room_for-requires c = omega (arith, c.head_bytes.ensures, length-head c.args.text.now, c.requires)
