use Rattle.bw_typed.proofs.Services.{bodies_are_code, shared_are_no_lists}
use Rattle.bw_typed.proofs.laws.bodies_are_code.Goals as goal

pub returns-clause-code : goal.returns-clause-code
returns-clause-code c = bodies_are_code

pub returns-clause-shared : goal.returns-clause-shared
returns-clause-shared c = shared_are_no_lists
