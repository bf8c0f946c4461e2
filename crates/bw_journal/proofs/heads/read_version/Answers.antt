use Rattle.bw_journal.proofs.HeadParts.{cut_version, no_version}
use Rattle.bw_journal.proofs.heads.read_version.Goals as goal

pub returns-in-Cut : goal.returns-in-Cut
returns-in-Cut c = cut_version c.args.bytes.now c.in-Cut.ensures

pub returns-in-None : goal.returns-in-None
returns-in-None c = no_version c.args.bytes.now c.in-Differs.ensures
