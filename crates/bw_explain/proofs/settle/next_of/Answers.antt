use Rattle.bw_explain.specs.Aims.{walk_of}
use Rattle.bw_explain.specs.Tables.{size_at}
use Rattle.bw_explain.specs.Walks.{seek_value}
use Rattle.bw_explain.proofs.Settling.{next_none, next_more, chosen_next}
use Rattle.bw_explain.proofs.settle.next_of.Goals as goal

pub loop-n-preserved : goal.loop-n-preserved
loop-n-preserved c =
    let w = c.args.walk.now in
    next_more c.loop-n.n (size_at c.args.known.now) (seek_value w.page.templates.now (walk_of w) w.low w.high (size_at c.args.known.now)) c.loop-n.next.at
    c.loop-n.next.size c.open_size.result c.or-next.result.at c.or-next.result.size c.loop-n.invariant c.open_size.ensures.is c.open_size.ensures.most
    (chosen_next c.loop-n.next c.or-next.result c.loop-n.n c.open_size.result c.or-next.ensures)

pub loop-n-init : goal.loop-n-init
loop-n-init c =
    let w = c.args.walk.now in
    next_none (size_at c.args.known.now) (seek_value w.page.templates.now (walk_of w) w.low w.high (size_at c.args.known.now)) c.none-next.result.at
    c.none-next.result.size c.none-next.ensures.1
