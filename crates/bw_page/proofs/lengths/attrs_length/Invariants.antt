use Rattle.std.proofs.Common.{◌≡◌, length, take}
use Rattle.bw_lang.specs.Document.Print.{printed_attrs}
use Rattle.bw_page.proofs.lengths.attrs_length.Given as goal

abbrev pub invariant-loop-attr : goal.invariant-loop-attr
invariant-loop-attr l = l.total ≡ length (printed_attrs (take l.attr-index l.attr-items))
