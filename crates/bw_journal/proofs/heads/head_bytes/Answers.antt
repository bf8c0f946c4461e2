use Rattle.std.proofs.Common.{arith}
use Rattle.bw_journal.proofs.HeadParts.{length-head}
use Rattle.bw_journal.proofs.heads.head_bytes.Goals as goal

pub returns : goal.returns
returns c = omega (arith, length-head c.args.text.now)
