use Rattle.std.proofs.Common.{◌≡◌, take}
use Rattle.bw_lang.specs.Template.Controls.{fields}
use Rattle.bw_lang.specs.Document.View.{forest}
use Rattle.bw_types.specs.Gaps.{gap_uses}
use Rattle.bw_types.specs.Tables.{with_kinds, with_uses}
use Rattle.bw_types.proofs.tables.+items.Given as goal

abbrev pub invariant-note_items-loop-item : goal.invariant-note_items-loop-item
invariant-note_items-loop-item l = record {
  gaps : l.gaps ≡ with_uses l.initial.gaps (gap_uses (forest (take l.item-index l.item-items)));
  controls : l.controls ≡ with_kinds l.initial.controls (fields (forest (take l.item-index l.item-items)));
}
