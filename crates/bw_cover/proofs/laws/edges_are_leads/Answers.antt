use Rattle.bw_cover.proofs.EdgeLaws.{edges_are_leads, edges_are_nexts}
use Rattle.bw_cover.proofs.laws.edges_are_leads.Goals as goal

pub returns-clause-tree : goal.returns-clause-tree
returns-clause-tree c = edges_are_leads

pub returns-clause-flow : goal.returns-clause-flow
returns-clause-flow c = edges_are_nexts
