use Rattle.bw_run.proofs.Follow.Fit.{shown_is_fit, shown_again_is_fit}
use Rattle.bw_run.proofs.laws.frames_fit.Goals as goal

pub returns-clause-turn : goal.returns-clause-turn
returns-clause-turn c = shown_is_fit

pub returns-clause-again : goal.returns-clause-again
returns-clause-again c = shown_again_is_fit
