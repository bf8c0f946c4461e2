use Rattle.std.proofs.Common.{◌≡◌, length, take}
use Rattle.bw_lang.specs.Template.Markup.{escaped}
use Rattle.bw_page.proofs.lengths.text_length.Given as goal

abbrev pub invariant-loop-byte : goal.invariant-loop-byte
invariant-loop-byte l = l.total ≡ length (escaped (take l.byte-index l.text))
