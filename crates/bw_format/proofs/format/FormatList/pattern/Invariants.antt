use Rattle.std.proofs.Common.{◌≡◌, drop}
use Rattle.bw_format.specs.Formats.{pattern_of, AreUsable}
use Rattle.bw_format.proofs.format.FormatList.pattern.Given as goal

abbrev pub invariant-loop-format : goal.invariant-loop-format
invariant-loop-format l = (pattern_of (drop l.format-index l.format-items) l.field ≡ pattern_of l.format-items l.field)
    × AreUsable (drop l.format-index l.format-items)
