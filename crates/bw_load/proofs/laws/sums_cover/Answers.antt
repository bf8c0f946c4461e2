use Rattle.bw_load.proofs.Lawful.{typed_is_lawful}
use Rattle.bw_load.proofs.SumCovers.{sum_covers, below_is_covered}
use Rattle.bw_load.proofs.laws.sums_cover.Goals as goal

pub returns-clause-lawful : goal.returns-clause-lawful
returns-clause-lawful c = typed_is_lawful

pub returns-clause-sums : goal.returns-clause-sums
returns-clause-sums c = sum_covers

pub returns-clause-values : goal.returns-clause-values
returns-clause-values c = below_is_covered
