use Rattle.std.proofs.Common.{◌++◌, ◌∙◌, ap, List, ℕ}
use Rattle.bw_journal.specs.Layout.{sum_of}
use Rattle.bw_journal.proofs.Checks.{front_sum_is, put_is}
use Rattle.bw_journal.proofs.entries.put_entry.Goals as goal

pub returns-clause-sum : goal.returns-clause-sum
returns-clause-sum c =
    c.sum_over-after.ensures ∙ ap (λ (n : ℕ). sum_of n c.args.message.now)
    (front_sum_is c.args.sum c.args.key c.sum_over.result c.sum_over-front_sum.result c.args.message.now c.four_of-len.result c.eight_of-key.result
    c.four_of-len.ensures c.eight_of-key.ensures c.sum_over.ensures c.sum_over-front_sum.ensures)

pub returns-clause-bytes : goal.returns-clause-bytes
returns-clause-bytes c =
    let fs = front_sum_is c.args.sum c.args.key c.sum_over.result c.sum_over-front_sum.result c.args.message.now c.four_of-len.result c.eight_of-key.result
    c.four_of-len.ensures c.eight_of-key.ensures c.sum_over.ensures c.sum_over-front_sum.ensures in
    put_is c.args.sum c.args.key c.sum_over-front_sum.result c.sum_over-after.result c.args.message.now c.args.out.now.items c.put.new.out.items
    c.put-2.new.out.items c.put-3.new.out.items c.put-4.new.out.items c.put-5.new.out.items c.four_of-len.result c.eight_of-key.result c.eight_of.result
    c.eight_of-2.result c.four_of-len.ensures c.eight_of-key.ensures fs (c.sum_over-after.ensures ∙ ap (λ (n : ℕ). sum_of n c.args.message.now) fs)
    c.eight_of.ensures c.eight_of-2.ensures (c.put.ensures.items ∙ ap (λ (x : List ℕ). x ++ c.four_of-len.result) c.in_ok-reserve.ensures.items)
    c.put-2.ensures.items c.put-3.ensures.items c.put-4.ensures.items c.put-5.ensures.items
