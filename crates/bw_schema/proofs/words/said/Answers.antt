use Rattle.std.proofs.Common.{ℕ, List, map, ap, ◌∙◌, Bor}
use Rattle.std.specs.Str.Lines.{lines}
use Rattle.bw_schema.proofs.Lists.{flat_end, said_all, said_by}
use Rattle.bw_schema.proofs.words.said.Goals as goal

pub returns : goal.returns
returns c =
    let items = c.as_slice-line-items.result.now in
    let text = c.args.text.now in
    c.loop-line.invariant
    ∙ flat_end said_by (λ (x : Bor (List ℕ)). x.now) items c.loop-line.line-index (lines text) c.loop-line-test.false
    (ap (map (λ (x : Bor (List ℕ)). x.now)) c.as_slice-line-items.ensures.value ∙ c.in_ok-lines_of.ensures)
    ∙ said_all text
