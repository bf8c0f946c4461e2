use Rattle.std.proofs.Common.{◌≡◌, ◌∙◌, ◌++◌, OnOk, ap, subst, sym}
use Rattle.bw_excerpt.specs.Excerpts.{note}
use Rattle.bw_hints.specs.Hints.{meant_words}
use Rattle.bw_diagnose.specs.Blocks.{meant_note}
use Rattle.bw_diagnose.proofs.blocks.push_meant.Goals as goal

pub returns-in_ok-push_meant_words-in-Some : goal.returns-in_ok-push_meant_words-in-Some
returns-in_ok-push_meant_words-in-Some c =
    let words = c.deref.ensures.value ∙ c.in_ok-push_meant_words-in-Some.ensures
    ∙ ap (λ l. l ++ meant_words c.as_slice.result.now) c.new-words.ensures.items ∙ ap meant_words c.as_slice.ensures in
    subst (λ w. OnOk c.push_note.result (c.push_note.new.out.items ≡ c.args.out.now.items ++ w))
    (ap (note c.args.wide) words ∙ ap (meant_note c.args.wide) (sym c.in-Some.is)) c.push_note.ensures
