use Rattle.std.proofs.Common.{◌+◌, ap, length, arith}
use Rattle.bw_sum.proofs.ReadGaps.{longer}
use Rattle.bw_shape.proofs.Stays.{number_low}
use Rattle.bw_shape.proofs.PairsNamed.{names_order}
use Rattle.bw_shape.proofs.naming.name_order.Goals as goal

pub returns : goal.returns
returns c =
    let b = c.name_tag.new.tags in
    let d = c.name_tag-2.new.tags in
    let front = c.in_ok-name_tag-2.ensures.front in
    let l = number_low b d c.args.tag.now (length b) (length d) front (omega arith) (longer b d front) c.in_ok-name_tag.ensures.low in
    names_order c.args.tags.now b d c.args.pairs.now.items c.push.new.self.items c.args.tag.now c.args.after.now _ _
    c.in_ok-name_tag.ensures.front front l c.in_ok-name_tag-2.ensures.low
    (ap (λ k. k + 1) c.number-first.ensures.number) (ap (λ k. k + 1) c.number-second.ensures.number) c.in_ok-push.ensures.items
