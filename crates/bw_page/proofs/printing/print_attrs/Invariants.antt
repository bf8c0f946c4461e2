use Rattle.std.proofs.Common.{take}
use Rattle.bw_lang.specs.Document.Print.{printed_attrs}
use Rattle.bw_out.specs.Sends.{Sent}
use Rattle.bw_page.proofs.printing.print_attrs.Given as goal

abbrev pub invariant-loop-attr : goal.invariant-loop-attr
invariant-loop-attr g l = Sent g.W.Channel l.initial.sink l.sink (printed_attrs (take l.attr-index l.attr-items))
