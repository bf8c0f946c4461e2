use Rattle.std.proofs.Common.{◌≡◌, drop}
use Rattle.bw_diagnose.specs.Known.{tokens_in, lexemes_in}
use Rattle.bw_diagnose.specs.Templates as spec
use Rattle.bw_diagnose.proofs.templates.shown_of.Given as goal

abbrev pub invariant-loop-at : goal.invariant-loop-at
invariant-loop-at l = let text = l.told.text.now in
    spec.shown_among l.fault (tokens_in text) (lexemes_in text) l.name l.at (drop l.at (lexemes_in text))
    ≡ spec.shown_among l.fault (tokens_in text) (lexemes_in text) l.name 0 (lexemes_in text)
