use Rattle.std.proofs.Common.{◌∙◌}
use Rattle.bw_types.proofs.Known.{knows_shared}
use Rattle.bw_types.proofs.typed.Typed.shared.Goals as goal

pub returns : goal.returns
returns c = let t = c.args.self.now in c.get.ensures ∙ knows_shared t.service t.known c.args.name.now
