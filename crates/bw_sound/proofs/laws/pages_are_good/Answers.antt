use Rattle.bw_sound.proofs.Runs.{pages_are_good, runs_are_good}
use Rattle.bw_sound.proofs.laws.pages_are_good.Goals as goal

pub returns : goal.returns
returns c = record { next = pages_are_good; runs = runs_are_good }
