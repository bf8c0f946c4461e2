use Rattle.std.proofs.Common.{length}
use Rattle.case_files.proofs.texts.Texts.join.Given as goal

abbrev pub decreases-parts : goal.decreases-parts
decreases-parts l = length l.rest
