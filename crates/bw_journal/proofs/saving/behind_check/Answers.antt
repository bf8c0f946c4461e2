use Rattle.std.proofs.Common.{List, ℕ, ◌++◌, ◌∙◌, ap, subst}
use Rattle.bw_journal.specs.Layout.{eight}
use Rattle.bw_journal.specs.Reading.{IsCut, NeverBegins}
use Rattle.bw_journal.proofs.HeadParts.{cut_not_in_front, never_in_front}
use Rattle.bw_journal.proofs.saving.behind_check.Goals as goal

pub returns-in-Behind : goal.returns-in-Behind
returns-in-Behind c = c.in-Behind.ensures ∙ ap (λ (w : List ℕ). w ++ c.in-Behind.rest.now) c.eight_of.ensures

pub returns-in-Cut : goal.returns-in-Cut
returns-in-Cut c = λ rest e.
    cut_not_in_front (eight c.args.sum) c.args.bytes.now rest (subst (λ (w : List ℕ). IsCut w c.args.bytes.now) c.eight_of.ensures c.in-Cut.ensures) e

pub returns-in-Differs : goal.returns-in-Differs
returns-in-Differs c = λ rest e.
    never_in_front (eight c.args.sum) c.args.bytes.now rest (subst (λ (w : List ℕ). NeverBegins w c.args.bytes.now) c.eight_of.ensures c.in-Differs.ensures) e
