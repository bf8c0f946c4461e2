use Rattle.std.proofs.Common.{◌≡◌, drop}
use Rattle.bw_lang.specs.Table.Names.{with_names, Extends}
use Rattle.bw_lang.specs.Template.PieceGaps.{attr_gaps}
use Rattle.bw_tmpl.proofs.gaps.add_attrs.Given as goal

abbrev pub invariant-loop-attr : goal.invariant-loop-attr
invariant-loop-attr l = record {
  taken : with_names l.gaps (attr_gaps (drop l.attr-index l.attrs)) ≡ with_names l.fn.gaps (attr_gaps l.attrs);
  extends : Extends l.fn.gaps l.gaps;
}
