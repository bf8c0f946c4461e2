use Rattle.bw_meaning.proofs.laws.no_order_is_seen.Goals as goal
use Rattle.bw_meaning.proofs.Reordered.{orders_are_reordered}
use Rattle.bw_meaning.proofs.AnyOrder.{statements_see_no_order, turns_see_no_order, going_on_sees_no_order}

pub returns-clause-orders : goal.returns-clause-orders
returns-clause-orders c = orders_are_reordered

pub returns-clause-statements : goal.returns-clause-statements
returns-clause-statements c = statements_see_no_order

pub returns-clause-turn : goal.returns-clause-turn
returns-clause-turn c = turns_see_no_order

pub returns-clause-going_on : goal.returns-clause-going_on
returns-clause-going_on c = going_on_sees_no_order
