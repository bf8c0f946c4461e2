use Rattle.bw_flow.proofs.laws.of_typed.Goals as goal
use Rattle.bw_flow.proofs.OfTyped.{points_are_typed, names_are_scoped, nexts_are_inside, firsts_are_inside}

pub returns-clause-points : goal.returns-clause-points
returns-clause-points c = points_are_typed

pub returns-clause-names : goal.returns-clause-names
returns-clause-names c = names_are_scoped

pub returns-clause-nexts : goal.returns-clause-nexts
returns-clause-nexts c = nexts_are_inside

pub returns-clause-firsts : goal.returns-clause-firsts
returns-clause-firsts c = firsts_are_inside
