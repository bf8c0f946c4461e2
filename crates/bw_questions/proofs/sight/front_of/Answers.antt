use Rattle.std.proofs.Common.{ap, ◌∙◌, take}
use Rattle.std.proofs.lemmas.List.{take_min}
use Rattle.bw_questions.proofs.sight.front_of.Goals as goal

pub returns-clause-text : goal.returns-clause-text
returns-clause-text c =
    let text = c.args.paper.text.now in
    ap (λ n. take n text) c.min.ensures ∙ take_min 1048577 text
