use Rattle.std.proofs.Common.{List, ℕ, ◌++◌, ◌∙◌, ap}
use Rattle.bw_journal.specs.Heads.{front_of}
use Rattle.bw_journal.specs.Saved.{saved_sum}
use Rattle.bw_journal.proofs.SavedWorlds.{full_saved, saved_put, saved_sum_is}
use Rattle.bw_journal.proofs.saving.put_saved_head.Goals as goal

pub returns-in_err-reserve-clause-full : goal.returns-in_err-reserve-clause-full
returns-in_err-reserve-clause-full c = full_saved _ _ _ c.args.text.now c.args.saved.now c.in_err-reserve.ensures.full

pub returns-clause-bytes : goal.returns-clause-bytes
returns-clause-bytes c =
    let sum = saved_sum_is c.front_check.result c.sum_over.result c.sum_over-after.result c.eight_of-len.result c.args.saved.now c.eight_of-len.ensures
    c.sum_over.ensures c.sum_over-after.ensures in
    saved_put c.args.text.now c.args.saved.now c.args.out.now.items c.put_front.new.out.items c.put.new.out.items c.put-2.new.out.items c.put-3.new.out.items
    c.eight_of-len.result c.eight_of.result c.sum_over-after.result c.eight_of-len.ensures
    (sum ∙ ap (λ (n : ℕ). saved_sum n c.args.saved.now) c.front_check.ensures) c.eight_of.ensures
    (c.put_front.ensures.items ∙ ap (λ (x : List ℕ). x ++ front_of 1 c.args.text.now) c.in_ok-reserve.ensures.items) c.put.ensures.items c.put-2.ensures.items
    c.put-3.ensures.items
