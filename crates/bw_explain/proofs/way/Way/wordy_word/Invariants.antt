use Rattle.std.proofs.Common.{◌≡◌, not, take, false}
use Rattle.std.specs.List.{list_any}
use Rattle.bw_lang.specs.Text.Bytes.{is_blank_text}
use Rattle.bw_explain.proofs.way.Way.wordy_word.Given as goal

abbrev pub invariant-loop-word : goal.invariant-loop-word
invariant-loop-word l = list_any (λ s. not (is_blank_text s)) (take l.word-index l.word-items) ≡ false
