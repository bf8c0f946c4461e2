use Rattle.bw_journal.proofs.HeadParts.{cut_name, no_name}
use Rattle.bw_journal.proofs.heads.read_foreign.Goals as goal

pub returns-in-Cut : goal.returns-in-Cut
returns-in-Cut c = cut_name c.args.bytes.now c.in-Cut.ensures

pub returns-in-Differs : goal.returns-in-Differs
returns-in-Differs c = no_name c.args.bytes.now c.in-Differs.ensures
