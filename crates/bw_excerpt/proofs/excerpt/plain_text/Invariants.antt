use Rattle.std.proofs.Common.{◌≡◌, take, map}
use Rattle.bw_excerpt.specs.Excerpts.{plain}
use Rattle.bw_excerpt.proofs.excerpt.plain_text.Given as goal

abbrev pub invariant-loop-byte : goal.invariant-loop-byte
invariant-loop-byte l = l.out.items ≡ map plain (take l.byte-index l.text)
