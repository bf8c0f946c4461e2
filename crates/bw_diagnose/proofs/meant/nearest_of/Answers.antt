use Rattle.std.proofs.Common.{◌+◌, [], ◌∷◌, ◌∙◌, ap, drop}
use Rattle.bw_near.specs.Near.{nearer}
use Rattle.bw_diagnose.proofs.Nearer.{nearest_more, word_step}
use Rattle.bw_diagnose.proofs.meant.nearest_of.Goals as goal

pub loop-name-preserved : goal.loop-name-preserved
loop-name-preserved c =
    let word = c.args.word.now in let xs = c.args.names.now in let i = c.loop-name.name-index in let x = c.name-item.result in
    nearest_more word c.loop-name.nearest c.in_ok-nearest.nearest (x ∷ []) (drop (i + 1) xs) (drop i xs)
    (c.in_ok-nearest.ensures ∙ ap (nearer word c.loop-name.nearest) c.as_slice.ensures) (word_step xs i x c.name-item.is c.loop-name-test.true)
    ∙ c.loop-name.invariant
