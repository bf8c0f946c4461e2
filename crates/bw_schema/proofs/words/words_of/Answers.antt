use Rattle.std.proofs.Common.{ℕ, List, map, ap, ◌∙◌, Bor}
use Rattle.std.specs.List.{slice_split}
use Rattle.bw_schema.proofs.Lists.{flat_end, is_space, tab_words, words_by_tabs}
use Rattle.bw_schema.proofs.words.words_of.Goals as goal

pub returns : goal.returns
returns c =
    let items = c.as_slice-part-items.result.now in
    let line = c.args.line.now in
    c.loop-part.invariant
    ∙ flat_end tab_words (λ (x : Bor (List ℕ)). x.now) items c.loop-part.part-index (slice_split is_space line) c.loop-part-test.false
    (ap (map (λ (x : Bor (List ℕ)). x.now)) c.as_slice-part-items.ensures.value ∙ c.in_ok-parts.ensures)
    ∙ words_by_tabs line
