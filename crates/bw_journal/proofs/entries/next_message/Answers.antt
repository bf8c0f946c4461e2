use Rattle.std.proofs.Common.{refl, sym, arith, ap, ◌∙◌, subst, List, ℕ, ◌++◌}
use Rattle.std.proofs.lemmas.List.{take-append-drop}
use Rattle.bw_journal.specs.Layout.{eight}
use Rattle.bw_journal.specs.Reading.{IsCut, NeverBegins}
use Rattle.bw_journal.proofs.Parts.{few_is_short, cut_is_short, message_unsound, message_begins}
use Rattle.bw_journal.proofs.entries.next_message.Goals as goal

pub returns-then-bytes-len : goal.returns-then-bytes-len
returns-then-bytes-len c = few_is_short c.args.len c.args.sum c.args.bytes.now c.if-bytes-len.true

pub returns-in-Differs : goal.returns-in-Differs
returns-in-Differs c =
    message_unsound c.args.len c.args.sum c.args.bytes.now c.split_at.result.0.now c.split_at.result.1.now (omega (arith, c.split_at.ensures.front_len))
    (rw (c.split_at.ensures.front, c.split_at.ensures.back) (sym (take-append-drop c.args.len c.args.bytes.now)))
    (subst (λ (w : List ℕ). NeverBegins w c.split_at.result.1.now) (c.eight_of.ensures ∙ ap eight c.sum_over-sum.ensures) c.in-Differs.ensures)

pub returns-in-Cut : goal.returns-in-Cut
returns-in-Cut c =
    cut_is_short c.args.len c.args.sum c.args.bytes.now c.split_at.result.0.now c.split_at.result.1.now (omega (arith, c.split_at.ensures.front_len))
    (rw (c.split_at.ensures.front, c.split_at.ensures.back) (sym (take-append-drop c.args.len c.args.bytes.now)))
    (subst (λ (w : List ℕ). IsCut w c.split_at.result.1.now) (c.eight_of.ensures ∙ ap eight c.sum_over-sum.ensures) c.in-Cut.ensures)

pub returns-in-Behind : goal.returns-in-Behind
returns-in-Behind c = (
  message_begins c.args.len c.args.sum c.args.bytes.now c.split_at.result.0.now c.split_at.result.1.now c.in-Behind.rest.now c.sum_over-sum.result
      (omega (arith, c.split_at.ensures.front_len))
      (rw (c.split_at.ensures.front, c.split_at.ensures.back) (sym (take-append-drop c.args.len c.args.bytes.now)))
      (c.in-Behind.ensures ∙ ap (λ (w : List ℕ). w ++ c.in-Behind.rest.now) (c.eight_of.ensures ∙ ap eight c.sum_over-sum.ensures)) c.sum_over-sum.ensures,
  refl,
)
