use Rattle.std.proofs.Common.{◌≡◌, ◌+◌, drop}
use Rattle.bw_tmpl.specs.Steps.Reading.{leading}
use Rattle.bw_lang.specs.Template.MarkupNames.{later_of}
use Rattle.bw_tmpl.proofs.chars.name_length.Given as goal

abbrev pub invariant-loop-b : goal.invariant-loop-b
invariant-loop-b l = record {
  at : l.n ≡ l.b-index;
  found : leading (later_of l.class) l.bytes ≡ l.b-index + leading (later_of l.class) (drop l.b-index l.bytes);
}
