use Rattle.bw_meaning.proofs.laws.names_are_maps.Goals as goal
use Rattle.bw_meaning.proofs.Maps.{orders_agree, orders_weigh_the_same, storing_is_of_one_name, declaring_adds_one_name, leaving_takes_names}
use Rattle.bw_meaning.proofs.Seen.{expressions_see_names}

pub returns-clause-orders : goal.returns-clause-orders
returns-clause-orders c = orders_agree

pub returns-clause-weights : goal.returns-clause-weights
returns-clause-weights c = orders_weigh_the_same

pub returns-clause-expressions : goal.returns-clause-expressions
returns-clause-expressions c = expressions_see_names

pub returns-clause-storing : goal.returns-clause-storing
returns-clause-storing c = storing_is_of_one_name

pub returns-clause-declaring : goal.returns-clause-declaring
returns-clause-declaring c = declaring_adds_one_name

pub returns-clause-leaving : goal.returns-clause-leaving
returns-clause-leaving c = leaving_takes_names
