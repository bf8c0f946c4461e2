use Rattle.std.proofs.Common.{◌≡◌, take}
use Rattle.bw_types.specs.Gaps.{attr_uses}
use Rattle.bw_types.specs.Tables.{with_uses}
use Rattle.bw_types.proofs.tables.note_attrs.Given as goal

abbrev pub invariant-loop-attr : goal.invariant-loop-attr
invariant-loop-attr l = l.gaps ≡ with_uses l.initial.gaps (attr_uses (take l.attr-index l.attr-items))
