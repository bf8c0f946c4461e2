use Rattle.std.proofs.Common.{◌∙◌, arith}
use Rattle.bw_journal.proofs.SavedWorlds.{none_by_check, parted, saved_found, saved_sum_is}
use Rattle.bw_journal.proofs.saving.read_saved.Goals as goal

pub returns-in-None : goal.returns-in-None
returns-in-None c =
    let bytes = c.args.bytes.now in
    let saved = c.split_at-2.result.0.now in
    let behind = c.split_at-2.result.1.now in
    let p = parted bytes c.split_at.result.0.now c.split_at.result.1.now saved behind c.args.len (λ i. omega (arith, c.type_inv.bytes i))
    (omega (arith, c.requires.len, c.requires.enough)) c.requires.len c.split_at.ensures.front c.split_at.ensures.back c.split_at-2.ensures.front
    c.split_at-2.ensures.back in
    let sum = saved_sum_is c.args.sum c.sum_over.result c.sum_over-sum.result c.split_at.result.0.now saved (c.split_at.ensures.front ∙ p.front)
    c.sum_over.ensures c.sum_over-sum.ensures in
    none_by_check c.args.sum c.sum_over-sum.result bytes saved behind p sum c.in-None.ensures

pub returns-in-Some : goal.returns-in-Some
returns-in-Some c =
    let bytes = c.args.bytes.now in
    let saved = c.split_at-2.result.0.now in
    let behind = c.split_at-2.result.1.now in
    let p = parted bytes c.split_at.result.0.now c.split_at.result.1.now saved behind c.args.len (λ i. omega (arith, c.type_inv.bytes i))
    (omega (arith, c.requires.len, c.requires.enough)) c.requires.len c.split_at.ensures.front c.split_at.ensures.back c.split_at-2.ensures.front
    c.split_at-2.ensures.back in
    let sum = saved_sum_is c.args.sum c.sum_over.result c.sum_over-sum.result c.split_at.result.0.now saved (c.split_at.ensures.front ∙ p.front)
    c.sum_over.ensures c.sum_over-sum.ensures in
    saved_found c.args.sum c.sum_over-sum.result bytes saved behind c.in-Some.rest.now p (omega (arith, c.requires.len, c.requires.few)) sum c.in-Some.ensures
