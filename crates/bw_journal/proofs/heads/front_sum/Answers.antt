use Rattle.bw_journal.proofs.Checks.{start_is}
use Rattle.bw_journal.proofs.heads.front_sum.Goals as goal

pub returns : goal.returns
returns c =
    start_is c.args.origin c.args.text.now c.four_of.result _ _ _ _ c.four_of.ensures
    c.sum_over-of_version.ensures c.sum_over-of_length.ensures c.sum_over-of_text.ensures
    c.sum_over.ensures
