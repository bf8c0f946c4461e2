use Rattle.std.proofs.Common.{◌≡◌, take}
use Rattle.std.specs.Prelude.{flat_map}
use Rattle.bw_schema.proofs.Lists.{tab_words}
use Rattle.bw_schema.proofs.words.words_of.Given as goal

abbrev pub invariant-loop-part : goal.invariant-loop-part
invariant-loop-part l = l.words ≡ flat_map (λ p. tab_words p.now) (take l.part-index l.part-items)
