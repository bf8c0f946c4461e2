use Rattle.std.proofs.Common.{◌≡◌, drop}
use Rattle.bw_lang.specs.Table.Names.{with_names}
use Rattle.bw_lang.specs.Service.TermView.{fillings}
use Rattle.bw_strings.specs.Literals.{filling_strings}
use Rattle.bw_strings.proofs.reading.+expression.Given as goal

abbrev pub invariant-note_pairs-loop-pair : goal.invariant-note_pairs-loop-pair
invariant-note_pairs-loop-pair l = with_names l.texts (filling_strings (fillings (drop l.pair-index l.pair-items))) ≡ with_names l.initial.texts
    (filling_strings l.pairs)
