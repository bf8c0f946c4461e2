use Rattle.std.proofs.Common.{◌<◌, false, length, replicate, sym, subst, arith}
use Rattle.std.specs.List.{All}
use Rattle.bw_shape.specs.Reach.{Placed}
use Rattle.bw_shape.proofs.Placing.{placed_none, all_there}
use Rattle.bw_shape.proofs.arranging.arranged.Goals as goal

pub place_inner-requires : goal.place_inner-requires
place_inner-requires c =
    let rows = length c.args.nodes.now in
    subst (λ s. Placed rows s c.new-back.result.items) (sym c.in_ok-placed.ensures)
    (subst (Placed rows (replicate rows false)) (sym c.new-back.ensures.items) (placed_none rows))

pub place_all-requires-clause-small : goal.place_all-requires-clause-small
place_all-requires-clause-small c = λ i d l. let b = c.requires i d l in let k = c.in_ok-place_inner.ensures.len in omega (arith, b, k)

pub place_all-requires-clause-placed : goal.place_all-requires-clause-placed
place_all-requires-clause-placed c =
    subst (λ k. Placed k c.place_inner.new.placed c.place_inner.new.back.items) (sym c.in_ok-place_inner.ensures.len) c.in_ok-place_inner.ensures

pub returns-clause-covers : goal.returns-clause-covers
returns-clause-covers c =
    all_there (length c.place_inner.new.placed) c.args.order.now c.place_all.new.placed c.place_all.new.back.items c.in_ok-place_all.ensures.placed
    c.in_ok-place_all.ensures.all

pub returns-clause-small : goal.returns-clause-small
returns-clause-small c =
    subst (λ k. All (λ n. n < k) c.place_all.new.back.items) c.in_ok-place_inner.ensures.len c.in_ok-place_all.ensures.placed.small
