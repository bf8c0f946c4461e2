use Rattle.bw_strings.proofs.Members.{joins_by_strings, below_by_strings, within_by_strings, blank_by_strings}
use Rattle.bw_strings.proofs.laws.sets_by_strings.Goals as goal

pub returns : goal.returns
returns c = record { join = joins_by_strings; below = below_by_strings; within = within_by_strings; blank = blank_by_strings }
