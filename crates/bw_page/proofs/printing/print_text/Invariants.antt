use Rattle.std.proofs.Common.{take}
use Rattle.bw_lang.specs.Template.Markup.{escaped}
use Rattle.bw_out.specs.Sends.{Sent}
use Rattle.bw_page.proofs.printing.print_text.Given as goal

abbrev pub invariant-loop-byte : goal.invariant-loop-byte
invariant-loop-byte g l = Sent g.W.Channel l.initial.sink l.sink (escaped (take l.byte-index l.byte-items))
