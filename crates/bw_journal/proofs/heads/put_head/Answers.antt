use Rattle.bw_journal.proofs.HeadParts.{full_is}
use Rattle.bw_journal.proofs.heads.put_head.Goals as goal

pub returns-in_err-reserve-clause-full : goal.returns-in_err-reserve-clause-full
returns-in_err-reserve-clause-full c = full_is _ _ _ c.args.text.now c.in_err-reserve.ensures.full
