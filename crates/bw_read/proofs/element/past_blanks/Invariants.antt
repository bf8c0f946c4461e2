use Rattle.std.proofs.Common.{◌≡◌, ◌+◌, drop}
use Rattle.bw_tmpl.specs.Steps.Reading.{leading}
use Rattle.bw_lang.specs.Text.Bytes.{is_blank}
use Rattle.bw_read.proofs.element.past_blanks.Given as goal

abbrev pub invariant-loop-b : goal.invariant-loop-b
invariant-loop-b l = record {
  at : l.n ≡ l.b-index;
  found : leading is_blank l.bytes ≡ l.b-index + leading is_blank (drop l.b-index l.bytes);
}
