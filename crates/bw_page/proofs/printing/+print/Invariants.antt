use Rattle.std.proofs.Common.{take}
use Rattle.bw_lang.specs.Document.View.{forest}
use Rattle.bw_lang.specs.Document.Print.{print}
use Rattle.bw_out.specs.Sends.{Sent}
use Rattle.bw_page.proofs.printing.+print.Given as goal

abbrev pub invariant-print_items-loop-item : goal.invariant-print_items-loop-item
invariant-print_items-loop-item g l = Sent g.W.Channel l.initial.sink l.sink (print (forest (take l.item-index l.item-items)))
