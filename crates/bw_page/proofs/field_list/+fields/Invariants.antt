use Rattle.std.proofs.Common.{◌≡◌, ◌++◌, take}
use Rattle.bw_lang.specs.Document.View.{forest}
use Rattle.bw_lang.specs.Template.Controls.{fields}
use Rattle.bw_page.proofs.field_list.+fields.Given as goal

abbrev pub invariant-put_items-loop-item : goal.invariant-put_items-loop-item
invariant-put_items-loop-item l = l.out ≡ l.initial.out ++ fields (forest (take l.item-index l.item-items))
