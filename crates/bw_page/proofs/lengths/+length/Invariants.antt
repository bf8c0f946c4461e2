use Rattle.std.proofs.Common.{◌≡◌, length, take}
use Rattle.bw_lang.specs.Document.View.{forest}
use Rattle.bw_lang.specs.Document.Print.{print}
use Rattle.bw_page.proofs.lengths.+length.Given as goal

abbrev pub invariant-items_length-loop-item : goal.invariant-items_length-loop-item
invariant-items_length-loop-item l = l.total ≡ length (print (forest (take l.item-index l.item-items)))
