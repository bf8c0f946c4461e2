use Rattle.std.proofs.Common.{◌++◌, [], ◌∷◌, ◌∙◌, ap}
use Rattle.bw_diagnose.proofs.Pushed.{word_more}
use Rattle.bw_diagnose.proofs.names.push_words.Goals as goal

pub loop-word-preserved : goal.loop-word-preserved
loop-word-preserved c =
    let names = c.loop-word.names.items in
    word_more names c.push_name.new.names.items c.as_slice-word-items.result.now c.loop-word.word-index c.word-item.result _
    c.word-item.is c.loop-word-test.true (c.in_ok-push_name.ensures ∙ ap (λ w. names ++ w ∷ []) c.as_bytes.ensures) c.loop-word.invariant
