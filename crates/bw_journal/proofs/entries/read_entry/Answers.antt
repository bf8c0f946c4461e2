use Rattle.std.proofs.Common.{arith, ap, ◌∙◌, subst, List, ℕ, ◌++◌}
use Rattle.bw_journal.specs.Layout.{eight}
use Rattle.bw_journal.specs.Reading.{IsCut, NeverBegins}
use Rattle.bw_journal.proofs.Parts.{cut_front, few_front, next_behind, front_unsound}
use Rattle.bw_journal.proofs.entries.read_entry.Goals as goal

pub returns-in-None : goal.returns-in-None
returns-in-None c = few_front c.args.sum c.args.bytes.now (λ i. omega (arith, c.type_inv.bytes i)) c.in-None.ensures.none c.requires

pub returns-in-Differs : goal.returns-in-Differs
returns-in-Differs c =
    let f = c.in-Some.ensures.some in
    front_unsound c.args.sum c.in-Some.front.len c.in-Some.front.key c.args.bytes.now c.in-Some.front.bytes.now c.in-Some.front.rest.now f.front_is f.parts
    (subst (λ (w : List ℕ). NeverBegins w c.in-Some.front.rest.now) (c.eight_of.ensures ∙ ap eight c.sum_over-front_sum.ensures) c.in-Differs.ensures)

pub returns-in-Cut : goal.returns-in-Cut
returns-in-Cut c =
    let f = c.in-Some.ensures.some in
    cut_front c.args.sum c.in-Some.front.len c.in-Some.front.key c.args.bytes.now c.in-Some.front.bytes.now c.in-Some.front.rest.now
    (omega (arith, c.in-Some.ensures.len, c.requires)) f.key f.front_is f.parts
    (subst (λ (w : List ℕ). IsCut w c.in-Some.front.rest.now) (c.eight_of.ensures ∙ ap eight c.sum_over-front_sum.ensures) c.in-Cut.ensures)

pub returns-in-Behind : goal.returns-in-Behind
returns-in-Behind c =
    let f = c.in-Some.ensures.some in
    next_behind c.args.sum c.in-Some.front.len c.in-Some.front.key c.sum_over-front_sum.result c.args.bytes.now c.in-Some.front.bytes.now
    c.in-Some.front.rest.now c.in-Behind.rest.now c.next_message.result (omega (arith, c.in-Some.ensures.len, c.requires))
    f.key f.front_is f.parts c.sum_over-front_sum.ensures
    (c.in-Behind.ensures ∙ ap (λ (w : List ℕ). w ++ c.in-Behind.rest.now) c.eight_of.ensures) c.next_message.ensures
