use Rattle.std.proofs.Common.{◌≡◌, take}
use Rattle.bw_lang.specs.Document.View.{forest}
use Rattle.bw_schema.specs.Validity.{each_child, is_other}
use Rattle.bw_valid.proofs.children.lacks_child.Given as goal

abbrev pub invariant-loop-item : goal.invariant-loop-item
invariant-loop-item l = l.lacking ≡ each_child (is_other l.tag) (forest (take l.item-index l.item-items))
