use Rattle.bw_journal.specs.Heads.{saved_front}
use Rattle.bw_journal.proofs.HeadParts.{cut_not_in_front, never_in_front}
use Rattle.bw_journal.proofs.heads.behind_saved_front.Goals as goal

pub returns-in-Cut : goal.returns-in-Cut
returns-in-Cut c = λ more e. cut_not_in_front (saved_front c.args.text.now) c.args.bytes.now more c.in-Cut.ensures e

pub returns-in-Differs : goal.returns-in-Differs
returns-in-Differs c = λ more e. never_in_front (saved_front c.args.text.now) c.args.bytes.now more c.in-Differs.ensures e
