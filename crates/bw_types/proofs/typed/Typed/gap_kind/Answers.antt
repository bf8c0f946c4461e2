use Rattle.std.proofs.Common.{◌∙◌}
use Rattle.bw_types.proofs.Known.{knows_gap}
use Rattle.bw_types.proofs.typed.Typed.gap_kind.Goals as goal

pub returns : goal.returns
returns c = let t = c.args.self.now in c.get.ensures ∙ knows_gap t.service t.known c.args.gap
