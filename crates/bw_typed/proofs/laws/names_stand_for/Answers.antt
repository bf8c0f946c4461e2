use Rattle.bw_typed.proofs.Found.{gaps_have_kinds}
use Rattle.bw_typed.proofs.Named.{shared_begin, gaps_have_numbers, plugs_are_known}
use Rattle.bw_typed.proofs.laws.names_stand_for.Goals as goal

pub returns-clause-shared : goal.returns-clause-shared
returns-clause-shared c = shared_begin

pub returns-clause-numbers : goal.returns-clause-numbers
returns-clause-numbers c = gaps_have_numbers

pub returns-clause-plugs : goal.returns-clause-plugs
returns-clause-plugs c = plugs_are_known

pub returns-clause-kinds : goal.returns-clause-kinds
returns-clause-kinds c = gaps_have_kinds
