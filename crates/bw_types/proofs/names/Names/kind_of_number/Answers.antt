use Rattle.std.proofs.Common.{◌∙◌}
use Rattle.bw_types.proofs.Known.{knows_gap}
use Rattle.bw_types.proofs.names.Names.kind_of_number.Goals as goal

pub returns : goal.returns
returns c = let n = c.args.self.now in c.get.ensures ∙ knows_gap n.service.now n.known c.args.gap
