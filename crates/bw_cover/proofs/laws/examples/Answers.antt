use Rattle.std.proofs.Common.{refl}
use Rattle.bw_cover.proofs.Examples.{rows_are_accepted}
use Rattle.bw_cover.proofs.laws.examples.Goals as goal

pub returns-clause-plugs : goal.returns-clause-plugs
returns-clause-plugs c = record { none = refl; rows = refl; shows = refl; misses_one = refl; twice = refl }

pub returns-clause-facts : goal.returns-clause-facts
returns-clause-facts c = rows_are_accepted
