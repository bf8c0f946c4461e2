use Rattle.std.proofs.Common.{◌∙◌}
use Rattle.bw_types.proofs.Known.{knows_field}
use Rattle.bw_types.proofs.typed.Typed.field_kind.Goals as goal

pub returns : goal.returns
returns c = let t = c.args.self.now in c.get.ensures ∙ knows_field t.service t.known c.args.name.now
