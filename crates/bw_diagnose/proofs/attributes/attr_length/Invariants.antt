use Rattle.std.proofs.Common.{◌≡◌, ◌+◌, drop}
use Rattle.bw_lang.specs.Template.MarkupNames.{later_of}
use Rattle.bw_lang.specs.declared.pieces.NameClass.TheVariants as class
use Rattle.bw_tmpl.specs.Steps.Reading.{leading}
use Rattle.bw_diagnose.proofs.attributes.attr_length.Given as goal

abbrev pub invariant-loop-index : goal.invariant-loop-index
invariant-loop-index l = l.index + leading (later_of class.Attr) (drop l.index l.bytes) ≡ leading (later_of class.Attr) l.bytes
