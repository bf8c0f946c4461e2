use Rattle.std.proofs.Common.{◌≡◌, drop}
use Rattle.bw_lang.specs.Table.Names.{with_names, Extends}
use Rattle.bw_lang.specs.Template.PieceGaps.{gap_names}
use Rattle.bw_tmpl.proofs.gaps.add_all.Given as goal

abbrev pub invariant-loop-piece : goal.invariant-loop-piece
invariant-loop-piece l = record {
  taken : with_names l.gaps (gap_names (drop l.piece-index l.pieces)) ≡ with_names l.fn.gaps (gap_names l.pieces);
  extends : Extends l.fn.gaps l.gaps;
}
