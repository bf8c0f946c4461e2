use Rattle.std.proofs.Common.{◌≡◌, drop}
use Rattle.bw_lang.specs.Template.PieceGaps.{attr_gaps}
use Rattle.bw_tmpl.proofs.gaps.has_hole.Given as goal

abbrev pub invariant-loop-attr : goal.invariant-loop-attr
invariant-loop-attr l = attr_gaps (drop l.attr-index l.attrs) ≡ attr_gaps l.attrs
