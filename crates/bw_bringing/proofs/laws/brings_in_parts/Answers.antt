use Rattle.bw_bringing.proofs.Bringing.{between, in_parts}
use Rattle.bw_bringing.proofs.laws.brings_in_parts.Goals as goal

pub returns-clause-parts : goal.returns-clause-parts
returns-clause-parts c = between

pub returns-clause-whole : goal.returns-clause-whole
returns-clause-whole c = in_parts
