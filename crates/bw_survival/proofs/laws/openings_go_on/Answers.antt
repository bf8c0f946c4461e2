use Rattle.bw_survival.proofs.Opening.{cuts_leave_entries, heads_are_begun}
use Rattle.bw_survival.proofs.laws.openings_go_on.Goals as goal

pub returns-clause-cuts : goal.returns-clause-cuts
returns-clause-cuts c = cuts_leave_entries

pub returns-clause-heads : goal.returns-clause-heads
returns-clause-heads c = heads_are_begun
