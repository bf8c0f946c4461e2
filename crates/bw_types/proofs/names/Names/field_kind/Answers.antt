use Rattle.std.proofs.Common.{◌∙◌}
use Rattle.bw_types.proofs.Known.{knows_field}
use Rattle.bw_types.proofs.names.Names.field_kind.Goals as goal

pub returns : goal.returns
returns c = let n = c.args.self.now in c.get.ensures ∙ knows_field n.service.now n.known c.args.name.now
