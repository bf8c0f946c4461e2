use Rattle.bw_journal.proofs.HeadParts.{head_is}
use Rattle.bw_journal.proofs.heads.read_head.Goals as goal

pub returns-in-None : goal.returns-in-None
returns-in-None c =
    head_is c.args.text.now c.args.bytes.now c.read_foreign.result c.in-Differs.ensures c.in-None.ensures c.read_foreign.ensures
