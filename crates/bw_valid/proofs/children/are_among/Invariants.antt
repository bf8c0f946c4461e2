use Rattle.std.proofs.Common.{◌≡◌, take}
use Rattle.bw_lang.specs.Document.View.{forest}
use Rattle.bw_schema.specs.Words.{is_among}
use Rattle.bw_schema.specs.Validity.{each_child}
use Rattle.bw_valid.proofs.children.are_among.Given as goal

abbrev pub invariant-loop-item : goal.invariant-loop-item
invariant-loop-item l = l.fine ≡ each_child (is_among l.tags) (forest (take l.item-index l.item-items))
