use Rattle.std.proofs.Common.{max, [], ◌∷◌, ◌++◌, take, ap, sym, ◌∙◌}
use Rattle.std.proofs.lemmas.List.{take_more}
use Rattle.bw_explain.specs.Atoms.{longest}
use Rattle.bw_explain.proofs.AtomLaws.{longest_more}
use Rattle.bw_explain.proofs.failing.longest.Goals as goal

pub loop-word-preserved : goal.loop-word-preserved
loop-word-preserved c =
    let xs = c.args.words.now in
    c.max-most.ensures ∙ ap (λ k. max k c.len.result) c.loop-word.invariant ∙ ap (max (longest (take c.loop-word.word-index xs))) c.len.ensures
    ∙ sym (ap longest (take_more xs c.loop-word.word-index c.word-item.result c.loop-word-test.true
    ∙ ap (λ z. take c.loop-word.word-index xs ++ z ∷ []) (sym c.word-item.is)) ∙ longest_more (take c.loop-word.word-index xs) c.word-item.result)
