use Rattle.std.proofs.Common.{ℕ, List, ◌++◌, map, ap, ◌∙◌, Bor}
use Rattle.std.specs.List.{slice_split}
use Rattle.bw_schema.proofs.Lists.{flat_end, is_tab, kept, kept_all}
use Rattle.bw_schema.proofs.words.push_words.Goals as goal

pub returns : goal.returns
returns c =
    let items = c.as_slice-word-items.result.now in
    let part = c.args.part.now in
    c.loop-word.invariant
    ∙ ap (λ (t : List (List ℕ)). c.args.words.now ++ t)
    (flat_end kept (λ (x : Bor (List ℕ)). x.now) items c.loop-word.word-index (slice_split is_tab part) c.loop-word-test.false
    (ap (map (λ (x : Bor (List ℕ)). x.now)) c.as_slice-word-items.ensures.value ∙ c.in_ok-parts.ensures)
    ∙ kept_all (slice_split is_tab part))
