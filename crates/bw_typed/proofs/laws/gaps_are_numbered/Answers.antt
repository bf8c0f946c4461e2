use Rattle.bw_typed.proofs.Found.{numbers_are_gaps}
use Rattle.bw_typed.proofs.Services.{gaps_are_numbered}
use Rattle.bw_typed.proofs.laws.gaps_are_numbered.Goals as goal

pub returns-clause-inside : goal.returns-clause-inside
returns-clause-inside c = gaps_are_numbered

pub returns-clause-standing : goal.returns-clause-standing
returns-clause-standing c = numbers_are_gaps
