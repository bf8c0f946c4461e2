use Rattle.bw_sound.proofs.Found.Cells.{least_cells_are_least}
use Rattle.bw_sound.proofs.laws.least_cells_are_least.Goals as goal

pub returns : goal.returns
returns c = least_cells_are_least
