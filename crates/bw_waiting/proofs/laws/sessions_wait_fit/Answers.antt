use Rattle.bw_waiting.proofs.KindsKept.{kinds_stay, waiting_fits}
use Rattle.bw_waiting.proofs.laws.sessions_wait_fit.Goals as goal

pub returns : goal.returns
returns c = record { stay = kinds_stay; waiting = waiting_fits }
