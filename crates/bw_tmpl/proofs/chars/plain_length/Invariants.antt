use Rattle.std.proofs.Common.{◌≡◌, ◌+◌, drop}
use Rattle.bw_tmpl.specs.Steps.Reading.{leading, is_plain}
use Rattle.bw_tmpl.proofs.chars.plain_length.Given as goal

abbrev pub invariant-loop-b : goal.invariant-loop-b
invariant-loop-b l = record {
  at : l.n ≡ l.b-index;
  found : leading (is_plain l.stop) l.bytes ≡ l.b-index + leading (is_plain l.stop) (drop l.b-index l.bytes);
}
